use Rattle.std.proofs.Common.{arith, ap, ◌∙◌, length}
use Rattle.lockpage.proofs.GeometryLaw.{present_proper as σ}
use Rattle.lockpage.proofs.PageLaw.{blank_page_length}
use Rattle.disk.proofs.DiskLaw.{has_group}
use Rattle.formatter.proofs.FormatLaw.{pages_start, pages_step, pages_end}
use Rattle.formatter.proofs.blank_pages.store_pages.Goals as goal

pub loop-g-init : goal.loop-g-init
loop-g-init c = pages_start σ _

pub store_page-requires : goal.store_page-requires
store_page-requires c = (
  has_group σ c.loop-g.disk c.args.groups c.loop-g.g (c.loop-g.auto.disk ∙ c.requires.disk_size_is) (omega arith),
  ap length c.requires.blank ∙ blank_page_length σ,
)

pub loop-g-preserved : goal.loop-g-preserved
loop-g-preserved c = pages_step σ _ _ _ _ _ c.requires.blank c.loop-g.invariant c.store_page.ensures

pub returns : goal.returns
returns c = pages_end σ _ _ _ _ (omega arith) c.loop-g.invariant
