-- `trellis_offers::Offers::next_key` meets its contract.
use Rattle.std.proofs.Common.{arith}
use Rattle.trellis_offers.proofs.Offers.next_key.Goals as goal

pub next_key-requires : goal.next_key-requires
next_key-requires c =
    let o = c.args.self.now in
    let l = o.lookups in
    let r = c.requires in (
      record {
        valid = l.arcs.now.form.valid;
        targets = l.targeted;
        starts = l.arcs.now.placed;
        keys = o.labelled;
        size = omega arith;
        low = r.0;
        high = r.1;
      },
      l.shared,
      r.2,
    )
