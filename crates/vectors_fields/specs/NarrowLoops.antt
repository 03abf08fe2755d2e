-- The first numbers of a list as bytes, cut to the room there is, and the loop that writes them.
use Rattle.std.specs.Prelude.{◌≡◌, List, ◌∷◌, map, ℕ, ◌+◌, ◌<◌, ◌≤◌, min, length, get_or, take, drop, set}
use Rattle.std.proofs.Common.{ap, ◌∙◌, arith, length-take, length-take-le, get_or-take}
use Rattle.std.proofs.lemmas.List.{length-map}
use Rattle.std.proofs.Math.ListN.{get_or-map}
use Rattle.lists.proofs.EachLaws.{drop_here, drop_all}
use Rattle.lists.proofs.WrittenLaws.{take_written}
use Rattle.lists.proofs.FillingLoops.{Filling, filling_none, filling_more, filling_length, filling_all}
use Rattle.lists.specs.Memory.{Wrote}
use Rattle.vectors_fields.specs.Fields.{low}

-- what was written is at the front
pub wrote_front : {w before after : List ℕ} {n : ℕ} → Wrote w before after n → take n after ≡ w
wrote_front {w} {before} {after} {n} f = ap (take n) f.memory ∙ take_written w before n f.count

module _ (list : List ℕ) (n : ℕ) (memory : List ℕ) where
  abbrev pub narrowed : List ℕ
  narrowed = take (length memory) (map low (take n list))

  -- i bytes are written
  abbrev pub Narrowed : List ℕ → ℕ → Type 0
  Narrowed present i = Filling narrowed memory present (drop i narrowed) i

module _ (list : List ℕ) (n : ℕ) (memory : List ℕ) (within : n ≤ length list) where
  abbrev bytes : List ℕ
  bytes = narrowed list n memory

  size : length bytes ≡ min (length memory) n
  size = length-take (length memory) (map low (take n list)) ∙ ap (min (length memory)) (length-map (take n list) low ∙ length-take-le n list within)

  number_at : (i : ℕ) → i < n → i < length memory → get_or bytes i 0 ≡ low (get_or list i 0)
  number_at i l m =
      get_or-take (length memory) (map low (take n list)) i 0 m ∙ get_or-map low (take n list) i 0 ∙ ap low (get_or-take n list i 0 l)

  pub narrowed_none : Narrowed list n memory memory 0
  narrowed_none = filling_none bytes memory (omega (arith, size))

  pub narrowed_length : (present : List ℕ) (i : ℕ) → Narrowed list n memory present i → length present ≡ length memory
  narrowed_length present i f = filling_length bytes memory present (drop i bytes) i f

  pub narrowed_more :
      (present : List ℕ) (i : ℕ) → i < n → i < length memory → Narrowed list n memory present i
      → Narrowed list n memory (set present i (low (get_or list i 0))) (i + 1)
  narrowed_more present i l m f =
      let here : drop i bytes ≡ low (get_or list i 0) ∷ drop (i + 1) bytes =
      drop_here 0 bytes i (omega (arith, size)) ∙ ap (λ b. b ∷ drop (i + 1) bytes) (number_at i l m) in
      filling_more bytes memory present (drop (i + 1) bytes) i (low (get_or list i 0)) (rw here at f)

  -- all numbers are written, or the memory is full
  pub narrowed_all : (present : List ℕ) (i : ℕ) → min (length memory) n ≤ i → Narrowed list n memory present i → Wrote bytes memory present i
  narrowed_all present i l f = filling_all bytes memory present i (rw (drop_all bytes i (omega (arith, size))) at f)
