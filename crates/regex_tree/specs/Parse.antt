-- From text to tree, or to the refusal of the leftmost fault (document 01, "Expression text" and refusals 4 to 8 of "What is turned
-- away"; document 02, T-01: refusal 19).
use Rattle.std.specs.Prelude.{List, [], ◌∷◌, Bool, true, false, ℕ, zero, suc, ◌+◌, ◌*◌, length}
use Rattle.refusal.specs.declared.Refusal.TheVariants as refusal
use Rattle.text.specs.Bytes.{bytes}
use Rattle.regex_tree.specs.Tree.{Tree, set, group, times, join, either}
use Rattle.regex_tree.specs.Parsing.{Parsing, found, fault, then}
use Rattle.text.specs.Text.{next, one_of, rest}
use Rattle.regex_tree.specs.Sets.{labelled_set}
use Rattle.regex_tree.specs.Repetition.{repeats, repetition}

-- "Alternation `|` binds loosest, then joining, then repetition": branches have `|` between them, pieces are joined to a branch, a group
-- is what a repetition repeats, in parentheses or a set.
pub data Mode : Type 0 where
  m_alternation m_branch m_piece m_group : Mode

-- a branch ends here: at the text's end, `|` or `)`
abbrev pub ends : List ℕ → Bool
ends [] = true
ends (b ∷ s) = one_of (bytes "|)") b

-- "Groups `( )` nest, at most 16 open together": s begins with the `(`, and d more may be opened
unfoldable pub grouped : (ℕ → List ℕ → Parsing Tree) → ℕ → List ℕ → Parsing Tree
grouped content zero s = fault refusal.Depth s
grouped content (suc d) s = then (content d (rest s)) (λ r s₁.
    elim (next ")" s₁) [ true ↦ found (group r) (rest s₁) | false ↦ fault refusal.MisplacedSign s₁ ])

-- One step of parsing, where d more groups may be opened and `parse` parses less text, or the same text in a closer mode: the tree and the
-- rest of the text, or the refusal and the text from the fault on. A missing `)` is a misplaced sign at the place where it should be.
unfoldable pub step : List ℕ → (Mode → ℕ → List ℕ → Parsing Tree) → Mode → ℕ → List ℕ → Parsing Tree
step A parse m_alternation d s = then (parse m_branch d s) (λ r s₁.
    elim (next "|" s₁) [ true ↦ then (parse m_alternation d (rest s₁)) (λ t s₂. found (either r t) s₂) | false ↦ found r s₁ ])
step A parse m_branch d s = then (parse m_piece d s) (λ r s₁.
    elim (ends s₁) [ true ↦ found r s₁ | false ↦ then (parse m_branch d s₁) (λ t s₂. found (join r t) s₂) ])
step A parse m_piece d s = then (parse m_group d s) (λ r s₁.
    elim (repeats s₁) [ true ↦ then (repetition s₁) (λ c s₂. found (times r c) s₂) | false ↦ found r s₁ ])
step A parse m_group d s =
    elim (next "(" s) [ true ↦ grouped (parse m_alternation) d s | false ↦ then (labelled_set A s) (λ c s₁. found (set c) s₁) ]

-- the modes from the closest to the loosest
abbrev pub rank : Mode → ℕ
rank m_group = 0
rank m_piece = 1
rank m_branch = 2
rank m_alternation = 3

-- a number that falls from each step to those that it calls
abbrev pub measure : Mode → List ℕ → ℕ
measure m s = 4 * length s + rank m

-- k steps deep
unfoldable pub go : List ℕ → ℕ → Mode → ℕ → List ℕ → Parsing Tree
go A zero m d s = fault refusal.MisplacedSign s
go A (suc k) m d s = step A (go A k) m d s

-- Parses the front of a text over the alphabet A, where d more groups may be opened. The depth is always enough: `parse A` is the one
-- function with `parse A m d s ≡ step A (parse A) m d s` (StepsLaws).
unfoldable pub parse : List ℕ → Mode → ℕ → List ℕ → Parsing Tree
parse A m d s = go A (suc (measure m s)) m d s

-- nothing may be left after the expression: a stray `)` is misplaced
unfoldable pub whole : Tree → List ℕ → Parsing Tree
whole t [] = found t []
whole t (b ∷ s) = fault refusal.MisplacedSign (b ∷ s)

-- The tree of the whole text over the alphabet A, or the refusal and the text from the fault on.
unfoldable pub expression_of : List ℕ → List ℕ → Parsing Tree
expression_of A s = then (parse A m_alternation 16 s) whole
