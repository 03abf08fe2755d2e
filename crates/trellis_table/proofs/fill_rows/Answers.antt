-- `trellis_table::fill_rows` meets its contract.
use Rattle.form_arcs.specs.TargetsLaws.{targets_there}
use Rattle.trellis_offers.specs.LookupsLaws.{firsts_follow}
use Rattle.trellis_table.proofs.fill_rows.Goals as goal

pub invariant_of-lookups : goal.invariant_of-lookups
invariant_of-lookups c =
    let arcs = c.new-arcs.result in
    record {
      targeted = targets_there arcs.form.valid c.no_targets-targets.ensures c.list_targets.ensures;
      shared = c.equal_arcs-same.ensures;
      first = firsts_follow arcs.form.valid c.list_firsts-n.ensures;
    }
