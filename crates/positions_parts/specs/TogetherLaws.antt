-- Letters and arcs that are added only if a flag is true: what holds if it is, and if it is not.
use Rattle.std.specs.Prelude.{◌≡◌, refl, Bool, true, false, ◌&&◌, ◌||◌, List}
use Rattle.std.proofs.Common.{sym, ap, ◌∙◌}
use Rattle.std.proofs.Math.Bool.{or-false}
use Rattle.positions_follow.specs.Sets.{member, arc, Union, Linked}
use Rattle.positions_parts.specs.Together.{United, Looped}

pub united_on : (a b r : List Bool) (on : Bool) → on ≡ true → Union a b r → United a on b r
unfolding United
united_on a b r on e u i = u.at i ∙ ap (λ t. member a i || t && member b i) (sym e)

pub united_off : (a b : List Bool) (on : Bool) → on ≡ false → United a on b a
unfolding United
united_off a b on e i = sym (ap (λ t. member a i || t && member b i) e ∙ or-false (member a i))

pub looped_on : (on : Bool) (from to : List Bool) (before after : List (List Bool)) → on ≡ true → Linked from to before after → Looped on from to before after
looped_on on from to before after e l = rw e (record { size = l.size; arcs = l.at })

pub looped_off : (on : Bool) (from to : List Bool) (before : List (List Bool)) → on ≡ false → Looped on from to before before
looped_off on from to before e = rw e (record { size = refl; arcs = λ i j. sym (or-false (arc before i j)) })
