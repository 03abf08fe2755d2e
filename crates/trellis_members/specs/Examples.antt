-- The number of true values, listed elements, and a set of two members with its list. For the reader: nothing uses it.
use Rattle.std.specs.Prelude.{ℕ, zero, suc, ◌<◌, ◌≡◌, refl, true, false, List, [], ◌∷◌, map, get_or, replicate, set as put}
use Rattle.std.proofs.Common.{arith}
use Rattle.lists.specs.Marks.{Listed}
use Rattle.trellis_members.specs.Members.{trues, Members}
use Rattle.trellis_members.specs.MembersLaws.{members_none, members_more}

abbrev three : List ℕ
three = 5 ∷ 3 ∷ 9 ∷ []

record Examples : Type 0 where
  numbers : map trues ([] ∷ (false ∷ true ∷ true ∷ []) ∷ (false ∷ []) ∷ []) ≡ 0 ∷ 2 ∷ 0 ∷ []
  -- the second of two, and an element after them
  listed : Listed three 2 3
  not_listed : Listed three 2 9 → ⊥
  -- state 5, then state 3
  two : Members (put (put (replicate 255 false) 5 true) 3 true) (put (put (replicate 256 0) 0 5) 1 3) 2

not_among : (k : ℕ) → k < 2 → get_or three k 0 ≡ 9 → ⊥
not_among zero h e = omega arith
not_among (suc zero) h e = omega arith
not_among (suc (suc k)) h e = omega arith

examples : Examples
unfolding trues
examples = record {
  numbers = refl;
  listed = (1, omega arith, refl);
  not_listed = λ l. not_among l.0 l.1 l.2;
  two = members_more (members_more (members_none (replicate 256 0) refl) 5 (omega arith) refl) 3 (omega arith) refl;
}
