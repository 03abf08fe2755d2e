-- `States::new` meets its contract: nothing is in a set of false values.
use mathlib.Core.Path.{refl, sym, subst}
use lib.ListN.{replicate}
use Rattle.lists.proofs.MarksLaws.{has_none}
use Rattle.trellis_members.specs.Members.{IsEmpty}
use Rattle.trellis_members.specs.MembersLaws.{members_none}
use Rattle.trellis_members.proofs.States.new.Goals as goal

pub from_parts-requires : goal.from_parts-requires
from_parts-requires c = members_none (replicate 256 0) refl

pub returns : goal.returns
returns c = subst IsEmpty (sym c.from_parts.ensures) (has_none 255)
