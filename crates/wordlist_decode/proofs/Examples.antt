-- Lines read with word lists: of levels and collars, where the cheapest labels column by column are not listed; and of two sevens.
use Rattle.std.specs.Prelude.{ℕ, ◌≡◌, refl}
use Rattle.std.proofs.Math.Option.{some, none}
use mathlib.Core.List.{List, [], ◌∷◌, flat_map}
use Rattle.lists.specs.Lists.{any, keep, numbers}
use Rattle.lists.specs.Each.{all}
use Rattle.refusal.specs.Verdict.{passed, unless, if_passed}
use Rattle.ctc.specs.Collapse.{merge, without_blanks, collapse}
use Rattle.automaton.specs.Automaton.{Accepts}
use Rattle.automaton.specs.Form.{ordered, valid_form, view, follow_of, ends_of, encode}
use Rattle.automaton.proofs.ValidLaws.{view_proper}
use Rattle.automaton.specs.Accepted.{spells, accepts}
use Rattle.automaton.proofs.AcceptedLaws.{accepts_decides}
use Rattle.matrix.specs.Matrix.{Matrix, matrix}
use Rattle.outcome.specs.Outcome.{Outcome}
use Rattle.outcome.proofs.ChoiceLaws.{not_after, preferred, better}
use Rattle.outcome.proofs.Exhaustive.{over, exhaustive, usable, decided, decided_outcome}
use Rattle.text.specs.Bytes.{bytes}
use Rattle.text_lines.specs.Lines.{onto, pieces, both, closed}
use Rattle.wordlist.specs.Words.{words, repeated, list_fault, foreign}
use Rattle.wordlist.specs.PrefixTree.{prefixes_from, once, letters_in, prefix_read_at, prefix_tree}
use Rattle.wordlist.specs.Listed.{Listed}
use Rattle.compile_list.specs.Call.{compile_list_call}
use Rattle.wordlist_decode.proofs.Demands.{listed_outcome}

-- over `12LC`, where the cheapest labels are those of C2: the levels L1 and L2, and the collar C1
abbrev A : List ℕ
A = bytes "12LC"

abbrev list : List ℕ
list = bytes "L1\nL2\nC1\n"

abbrev form : List ℕ
form = 0x10040005 ∷ 0x20000103 ∷ 0x20000201 ∷ 0x20000202 ∷ 0x20000104 ∷ 0x20000201 ∷ 0x30000102 ∷ 0x30000103 ∷ 0x30000405 ∷ []

compiled : compile_list_call A list 9 ≡ passed form
unfolding compile_list_call if_passed unless keep numbers flat_map encode onto pieces both closed repeated list_fault foreign prefixes_from once letters_in prefix_read_at prefix_tree
compiled = refl

-- two columns, each with the costs of blank, 1, 2, L and C
abbrev line : Matrix
line = matrix (9 ∷ 9 ∷ 9 ∷ 4 ∷ 1 ∷ 9 ∷ 5 ∷ 1 ∷ 9 ∷ 9 ∷ []) 5 2

-- L2 for 5; C1 is 6, and C2 would be 2
read : Outcome (Listed A (words list)) line (some (3 ∷ 2 ∷ []))
unfolding decided exhaustive over better preferred not_after usable collapse merge without_blanks spells numbers follow_of ends_of valid_form ordered
read = (listed_outcome A list 9 form compiled line (some (3 ∷ 2 ∷ []))).0 accepted
  where
    accepted : Outcome (Accepts (view form)) line (some (3 ∷ 2 ∷ []))
    accepted =
        let d = accepts_decides (view form) 4 (view_proper form refl) in
        decided_outcome line (Accepts (view form)) (accepts (view form)) (λ w. (d w).0) (λ w. (d w).1)

-- one column is too short for every name
short : Matrix
short = matrix (0 ∷ 0 ∷ 0 ∷ 0 ∷ 0 ∷ []) 5 1

nothing : Outcome (Listed A (words list)) short none
unfolding short decided exhaustive over better preferred not_after usable collapse merge without_blanks spells numbers follow_of ends_of valid_form ordered
nothing =
    let d = accepts_decides (view form) 4 (view_proper form refl) in
    (listed_outcome A list 9 form compiled short none).0
    (decided_outcome short (Accepts (view form)) (accepts (view form)) (λ w. (d w).0) (λ w. (d w).1))

-- "A crossed and a plain 7 side by side are two sevens without a blank" (document 02, T-07): over `7a7` the labels of 7 are 1 and 3.
abbrev sevens : List ℕ
sevens = 0x10030004 ∷ 0x20000101 ∷ 0x20000103 ∷ 0x20000201 ∷ 0x20000203 ∷ 0x30000103 ∷ 0x30000104 ∷ 0x30000203 ∷ 0x30000204 ∷ []

two_sevens : compile_list_call (bytes "7a7") (bytes "77\n") 9 ≡ passed sevens
unfolding compile_list_call if_passed unless keep numbers flat_map encode onto pieces both closed repeated list_fault foreign prefixes_from once letters_in prefix_read_at prefix_tree
two_sevens = refl

-- two columns, each with the costs of blank, 7, a and 7
abbrev pair : Matrix
pair = matrix (9 ∷ 0 ∷ 9 ∷ 2 ∷ 9 ∷ 0 ∷ 9 ∷ 3 ∷ []) 4 2

pair_accepted : Outcome (Accepts (view sevens)) pair (some (3 ∷ 1 ∷ []))
unfolding decided exhaustive over better preferred not_after usable collapse merge without_blanks spells numbers follow_of ends_of valid_form ordered
pair_accepted =
    let d = accepts_decides (view sevens) 3 (view_proper sevens refl) in
    decided_outcome pair (Accepts (view sevens)) (accepts (view sevens)) (λ w. (d w).0) (λ w. (d w).1)

-- 3 1 for 2; 1 3 is 3, and 1 1, one seven, would be 0
pair_read : Outcome (Listed (bytes "7a7") (words (bytes "77\n"))) pair (some (3 ∷ 1 ∷ []))
pair_read = (listed_outcome (bytes "7a7") (bytes "77\n") 9 sevens two_sevens pair (some (3 ∷ 1 ∷ []))).0 pair_accepted
