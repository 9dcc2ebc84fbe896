-- `recovery::goes_on` meets its contract. Assumes nothing.
use Rattle.std.proofs.Common.{◌∙◌, arith, rules}
use borrow.Author.Tests.{lt-leb}
use Rattle.lockpage.specs.Geometry.{present}
use Rattle.lockpage.proofs.GeometryLaw.{present_proper as σ}
use Rattle.disk.proofs.DiskLaw.{has_group_of}
use Rattle.validity.proofs.ValidLaw.{facts}
use Rattle.recovery.proofs.WalkLaw.{stops_unkept, marks_cover, stops_earlier, goes}
use Rattle.recovery.proofs.goes_on.Goals as goal

pub entry-e-requires : goal.entry-e-requires
entry-e-requires c =
    let ready = c.requires in
    ((facts σ _ ready.box.memory).size, has_group_of σ _ _ _ ready.box.disk ready.inside)

pub returns-then-not-says_kept : goal.returns-then-not-says_kept
returns-then-not-says_kept c walked are =
    stops_unkept present _ _ _ _ _ c.requires.inside _ c.entry-e.ensures _ c.says_kept.ensures (search rules) walked

pub is_marked-requires : goal.is_marked-requires
is_marked-requires c = omega (arith, marks_cover _ _ _ c.requires)

pub returns-then-follows : goal.returns-then-follows
returns-then-follows c walked are =
    let ready = c.requires in
    goes present _ _ _ _ _ ready.inside _ c.entry-e.ensures _ c.says_kept.ensures (search rules)
    (omega arith) _ (marks_cover _ _ _ ready) _ c.is_marked.ensures walked are

pub returns-else-follows : goal.returns-else-follows
returns-else-follows c walked are =
    lt-leb _ _ (omega arith)
    ∙ stops_earlier present _ _ _ _ _ c.requires.inside _ c.entry-e.ensures _ c.says_kept.ensures (search rules) (omega arith) walked
