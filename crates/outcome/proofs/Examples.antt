-- The order of paths on small paths.
use Rattle.std.specs.Prelude.{refl, [], ◌∷◌}
use Rattle.std.proofs.Common.{inl, inr, arith}
use Rattle.outcome.specs.Order.{NotAfter}

record Examples : Type 0 where
  -- the lower label in the first column where they differ, and the blank is the lowest
  blank_first : NotAfter (0 ∷ 2 ∷ []) (1 ∷ 0 ∷ [])
  not_last : NotAfter (1 ∷ 0 ∷ []) (0 ∷ 2 ∷ []) → ⊥
  same_begin : NotAfter (1 ∷ 0 ∷ []) (1 ∷ 1 ∷ [])

examples : Examples
examples = record {
  blank_first = inl (omega arith);
  not_last = elim [ inl l ↦ omega arith | inr e ↦ let q = e.0 in omega arith ];
  same_begin = inr (refl, inl (omega arith));
}
