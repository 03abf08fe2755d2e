-- The words on lists, memory and cases that promises use, on small lists.
use Rattle.std.specs.Prelude.{ℕ, ◌≡◌, refl, true, false, [], ◌∷◌, map}
use Rattle.std.proofs.Math.Option.{some as just, none}
use Rattle.lists.specs.Lists.{in_range, any, keep, same_list, numbers, lowest}
use Rattle.lists.specs.Each.{all}
use Rattle.lists.specs.Memory.{written}
use Rattle.lists.specs.Cases.{when, first_of, provided}

record Examples : Type 0 where
  -- two elements written into memory of three
  memory : written {A = ℕ} (1 ∷ 2 ∷ []) (7 ∷ 8 ∷ 9 ∷ []) ≡ 1 ∷ 2 ∷ 9 ∷ []
  from_on : numbers 32 3 ≡ 32 ∷ 33 ∷ 34 ∷ []
  -- both ends are included
  ends : map (in_range 1 3) (numbers 0 5) ≡ false ∷ true ∷ true ∷ true ∷ false ∷ []
  kept : keep {A = ℕ} (in_range 1 3) (0 ∷ 3 ∷ 4 ∷ 1 ∷ []) ≡ 3 ∷ 1 ∷ []
  some : map (any (in_range 1 3)) ([] ∷ (0 ∷ 4 ∷ []) ∷ (0 ∷ 1 ∷ []) ∷ []) ≡ false ∷ false ∷ true ∷ []
  -- also lists of which one begins with the other
  same : map (same_list (1 ∷ 2 ∷ [])) ([] ∷ (1 ∷ []) ∷ (1 ∷ 2 ∷ []) ∷ (1 ∷ 3 ∷ []) ∷ (1 ∷ 2 ∷ 3 ∷ []) ∷ []) ≡ false ∷ false ∷ true ∷ false ∷ false ∷ []
  every : map (all (in_range 1 3)) ([] ∷ (1 ∷ 4 ∷ []) ∷ (1 ∷ 3 ∷ []) ∷ []) ≡ true ∷ false ∷ true ∷ []
  -- 0 is not among the numbers, n is; 0 where none passes
  lowest_of : map (λ n. lowest (in_range 3 4) n) (numbers 0 6) ≡ 0 ∷ 0 ∷ 0 ∷ 3 ∷ 3 ∷ 3 ∷ []
  lowest_all : map (lowest (in_range 0 9)) (0 ∷ 1 ∷ 2 ∷ []) ≡ 0 ∷ 1 ∷ 1 ∷ []
  -- the first case that holds, and what is given where none does
  first_case : first_of {R = ℕ} (when false 1 ∷ when true 2 ∷ when true 3 ∷ []) 4 ≡ 2
  no_case : first_of {R = ℕ} (when false 1 ∷ []) 4 ≡ 4
  held : provided {X = ℕ} true (just 1) ≡ just 1
  not_held : provided {X = ℕ} false (just 1) ≡ none

examples : Examples
unfolding written numbers keep first_of provided
examples = record {
  memory = refl;
  from_on = refl;
  ends = refl;
  kept = refl;
  some = refl;
  same = refl;
  every = refl;
  lowest_of = refl;
  lowest_all = refl;
  first_case = refl;
  no_case = refl;
  held = refl;
  not_held = refl;
}
