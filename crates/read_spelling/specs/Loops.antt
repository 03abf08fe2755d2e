-- Labels replaced by characters, one iteration of the loop at a time.
use Rattle.std.specs.Prelude.{ℕ, ◌+◌, ◌≤◌, ◌<◌, ◌≡◌, List, ◌∷◌, length, get_or, take, drop, set}
use Rattle.std.proofs.Common.{ap, ◌∙◌, arith, get_or-take, length-take-le}
use Rattle.std.proofs.lemmas.List.{length-map}
use Rattle.lists.proofs.EachLaws.{each_at, drop_here, drop_all}
use Rattle.lists.proofs.WrittenLaws.{written_beyond}
use Rattle.lists.proofs.FillingLoops.{Filling, filling_none, filling_more, filling_all, filling_length}
use Rattle.alphabet.specs.Labels.{Label, character, characters}
use Rattle.read_spelling.specs.InPlace.{Labels, Spelt}

-- the loop at place i: the labels before it are replaced by their characters
abbrev pub Spelling : (A : List ℕ) (n : ℕ) (before after : List ℕ) (i : ℕ) → Type 0
Spelling A n before after i = Filling (characters A (take n before)) before after (characters A (drop i (take n before))) i

module _ (A before : List ℕ) (n : ℕ) (labels : Labels A before n) where
  size : length (characters A (take n before)) ≡ n
  size = length-map (take n before) (character A) ∙ length-take-le n before labels.room

  pub spelling_none : Spelling A n before before 0
  spelling_none = filling_none (characters A (take n before)) before (let s = size in let r = labels.room in omega arith)

  pub spelling_length : (after : List ℕ) (i : ℕ) → Spelling A n before after i → length after ≡ length before
  spelling_length after i f = filling_length (characters A (take n before)) before after (characters A (drop i (take n before))) i f

  module _ (after : List ℕ) (i : ℕ) (f : Spelling A n before after i) where
    module _ (inside : i < n) where
      -- the label at place i is still there
      pub label_there : get_or after i 0 ≡ get_or before i 0
      label_there =
          let s = size in
          let w = f.within in
          let l = length-take-le i (characters A (take n before)) w in
          ap (λ m. get_or m i 0) f.so_far ∙ written_beyond 0 (take i (characters A (take n before))) before i (omega arith)

      pub label_fits : Label A (get_or before i 0)
      label_fits =
          let l = length-take-le n before labels.room in
          let h = each_at (Label A) 0 (take n before) i (omega arith) labels.each in
          let e = get_or-take n before i 0 inside in
          (omega arith, omega arith)

      pub spelling_more : Spelling A n before (set after i (character A (get_or before i 0))) (i + 1)
      spelling_more =
          let l = length-take-le n before labels.room in
          let e = get_or-take n before i 0 inside in
          filling_more (characters A (take n before)) before after (characters A (drop (i + 1) (take n before))) i (character A (get_or before i 0))
          (rw (ap (characters A) (drop_here 0 (take n before) i (omega arith)) ∙ ap (λ x. character A x ∷ characters A (drop (i + 1) (take n before))) e) at f)

    pub spelling_all : n ≤ i → Spelt A n before after
    spelling_all h =
        let l = length-take-le n before labels.room in
        (filling_all (characters A (take n before)) before after i (rw (ap (characters A) (drop_all (take n before) i (omega arith))) at f)).memory
