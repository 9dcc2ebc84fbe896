-- `versions_log::fill_log` meets its contract, store by store. Assumes nothing.
use Rattle.std.proofs.Common.{arith}
use Rattle.octets.specs.Part.{Below, part}
use Rattle.lockpage.specs.Geometry.{present}
use Rattle.versions_state.proofs.ValidLaw.{facts}
use Rattle.versions_log.proofs.FilledLaw.{log_filled}
use Rattle.versions_log.proofs.fill_log.Goals as goal

pub slice_bounds-store_bytes-end : goal.slice_bounds-store_bytes-end
slice_bounds-store_bytes-end c = omega (arith, (facts present _ c.requires.valid).size)

pub returns : goal.returns
unfolding Below part
returns c =
    let pre = c.requires in
    log_filled present _ _ _ (λ i. omega (arith, c.type_inv.state i)) pre.valid pre.out_size c.store_bytes.ensures _ _ _
    c.fill.ensures c.store_u64.ensures
