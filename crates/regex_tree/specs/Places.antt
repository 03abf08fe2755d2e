-- Where the fault of refusals 4 to 8 and 19 is: the text from there on begins with something bad, of the refusal's kind, and no fault is further
-- left.
use Rattle.std.specs.Prelude.{◌≡◌, List, [], ◌∷◌, ◌++◌, Bool, true, ℕ, ◌≤◌}
use Rattle.refusal.specs.declared.Refusal.{Refusal}
use Rattle.refusal.specs.declared.Refusal.TheVariants as refusal
use Rattle.text.specs.Bytes.{bytes}
use Rattle.regex_tree.specs.Tree.{Set, Tree}
use Rattle.regex_tree.specs.Letters.{labels_of}
use Rattle.regex_tree.specs.Parsing.{found, fault}
use Rattle.text.specs.Text.{one_of, next}
use Rattle.regex_tree.specs.Sets.{a_set}
use Rattle.regex_tree.specs.Repetition.{sign}
use Rattle.regex_tree.specs.Parse.{Mode, rank, m_alternation}
use Rattle.regex_tree.specs.Grammar.{loose, TextOf}

-- the text's end, or one of the signs that can be misplaced
abbrev pub misplaced : List ℕ → Bool
misplaced [] = true
misplaced (b ∷ r) = one_of (bytes "*+?{|)^$\\") b

-- What the text r from the fault on begins with, by the refusal: a sign or the text's end, an opening parenthesis, bad braces, a bad
-- bracket, a bracket with an unknown class, a set without a label. The other refusals have no place in the text.
pub data Place (A : List ℕ) : Refusal → List ℕ → Type 0 where
  at_sign : {r : List ℕ} → misplaced r ≡ true → Place A refusal.MisplacedSign r
  at_group : {r : List ℕ} → next "(" r ≡ true → Place A refusal.Depth r
  at_braces : {r : List ℕ} → next "{" r ≡ true → sign r ≡ fault refusal.Count r → Place A refusal.Count r
  at_bracket : {r : List ℕ} → next "[" r ≡ true → a_set r ≡ fault refusal.Bracket r → Place A refusal.Bracket r
  at_class : {r : List ℕ} → next "[" r ≡ true → a_set r ≡ fault refusal.ClassName r → Place A refusal.ClassName r
  at_set : {r : List ℕ} (c : Set) (v : List ℕ) → a_set r ≡ found c v → labels_of A c ≡ 0 → Place A refusal.Foreign r

-- the text u can be continued to a text of a tree
abbrev pub Begins : List ℕ → Mode → ℕ → List ℕ → Type 0
Begins A m d u = (v : List ℕ) × (t : Tree) × TextOf A d t (u ++ v) × (loose t ≤ rank m)

-- One of refusals 4 to 8 and 19 at the leftmost fault: the text from the fault on begins as the refusal says, the text is no expression, and the
-- text before the fault begins one, so that no fault is further left.
pub record Leftmost (A s : List ℕ) (n : Refusal) (r : List ℕ) : Type 0 where
  pub place : Place A n r
  pub none : (t : Tree) → TextOf A 16 t s → ⊥
  pub front : List ℕ
  pub splits : s ≡ front ++ r
  pub begins : Begins A m_alternation 16 front
