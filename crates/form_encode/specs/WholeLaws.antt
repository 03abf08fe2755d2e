-- The whole form, written in three parts: the head, the letters from place 1 on, and the arcs after them; and how long it is.
use Rattle.std.specs.Prelude.{ℕ, ◌+◌, ◌≤◌, ◌≡◌, Bool, List, [], ◌∷◌, ◌++◌, length, set}
use Rattle.std.proofs.Common.{ap, subst, ◌∙◌, append-nil, arith, length-append}
use Rattle.std.proofs.lemmas.List.{length-map}
use Rattle.lists.proofs.AscendingLaws.{length_numbers}
use Rattle.lists.specs.Lists.{numbers}
use Rattle.lists.proofs.FillingLoops.{Filling, filling_none, filling_more, filling_stored, filling_room, filling_all}
use Rattle.lists.specs.Memory.{Wrote}
use Rattle.lists.specs.Stored.{Stored}
use Rattle.automaton.specs.Form.{encode}
use Rattle.form_encode_arcs.specs.Arcs.{arcs_by}
use Rattle.automaton.specs.Arrays.{arrayed}
use Rattle.form_encode.specs.Parts.{letter_by, letters_by}
use Rattle.form_encode.specs.PartsLaws.{arrayed_words}

module _ (whole : List ℕ) (head : ℕ) (letters arcs memory : List ℕ) (is : whole ≡ head ∷ (letters ++ arcs)) (room : length whole ≤ length memory) where
  head_written : Filling whole memory (set memory 0 head) (letters ++ arcs) 1
  head_written =
      filling_more whole memory memory (letters ++ arcs) 0 head (subst (λ todo. Filling whole memory memory todo 0) is (filling_none whole memory room))

  pub letters_room : 1 + length letters ≤ length (set memory 0 head)
  letters_room = filling_room whole memory letters (set memory 0 head) arcs 1 head_written

  module _ (form : List ℕ) (n : ℕ) (stored : Stored letters 1 (set memory 0 head) form n) where
    letters_written : Filling whole memory form arcs n
    letters_written = filling_stored whole memory letters (set memory 0 head) form arcs 1 n head_written stored

    pub arcs_room : n + length arcs ≤ length form
    arcs_room = filling_room whole memory arcs form [] n (rw append-nil letters_written)

    pub all_written : (after : List ℕ) (end : ℕ) → Stored arcs n form after end → Wrote whole memory after end
    all_written after end last =
        filling_all whole memory after end (filling_stored whole memory arcs form after [] n end (rw append-nil letters_written) last)

pub length_words :
    (k l : ℕ) (empty : Bool) (labels : List ℕ) (first last : List Bool) (follow : List (List Bool))
    → length (encode k (arrayed l empty labels first last follow)) ≡ 1 + l + length (arcs_by l follow)
unfolding letters_by
length_words k l empty labels first last follow =
    let letters = letters_by l labels first last in
    let size : length letters ≡ l = length-map (numbers 1 l) (letter_by labels first last) ∙ length_numbers 1 l in
    ap length (arrayed_words empty labels first last follow l k) ∙ omega (arith, length-append letters (arcs_by l follow))
