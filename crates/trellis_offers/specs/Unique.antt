-- Which letters are marked is said in one way at most: none is marked beforehand, so a marked letter shares its arcs.
use Rattle.std.specs.Prelude.{ℕ, Bool, false, ◌⊎◌, List, replicate}
use Rattle.std.proofs.Common.{ap, inl, inr}
use Rattle.std.proofs.Props.{props}
use Rattle.lists.specs.Marks.{Has}
use Rattle.lists.proofs.MarksLaws.{has_none}
use Rattle.form_arcs.specs.Equal.{Shares, EqualArcs}

other_prop : {A B : Type 0} → (A → ⊥) → IsProp B → IsProp (A ⊎ B)
other_prop none one (inl a) y = absurd (none a)
other_prop none one (inr b) (inl a) = absurd (none a)
other_prop none one (inr b) (inr c) = ap inr (one b c)

marked_prop : (f s : List ℕ) (i : ℕ) → IsProp (Has (replicate 128 false) i ⊎ Shares f s i)
marked_prop f s i = other_prop (has_none 128 i) (Prim.hlevel props)

pub equal_arcs-prop : (f s : List ℕ) (same : List Bool) → IsProp (EqualArcs f s same)
equal_arcs-prop f s same = Prim.hlevel (marked_prop f s, props)
