-- `trellis_offers::Offers::other_key` meets its contract.
use Rattle.std.proofs.Common.{arith}
use Rattle.trellis_offers.proofs.Offers.other_key.Goals as goal

pub other_key-requires : goal.other_key-requires
other_key-requires c =
    let o = c.args.self.now in
    let l = o.lookups in
    let r = c.requires in (
      record {
        valid = l.arcs.now.form.valid;
        targets = l.targeted;
        starts = l.arcs.now.placed;
        keys = o.labelled;
        size = omega arith;
        low = r.0;
        high = r.1;
      },
      r.2,
    )
