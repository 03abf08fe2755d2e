-- The letters of an opened expression numbered from left to right: which may be first, which last, and which arcs lead from letter to
-- letter; and the automaton of these letters (document 01, "Opening and the compiled form").
use Rattle.std.specs.Prelude.{ℕ, zero, suc, ◌+◌, ◌-◌, Bool, true, false, ◌&&◌, ◌||◌, List, get_or, eqb}
use Rattle.automaton.specs.Automaton.{Automaton}
use Rattle.regex_tree.specs.Tree.{Tree}
use Rattle.positions.specs.Opened.{Opened, letter, joining, alternation, optional, star, plus, empty, never, opened, labels, letters}

-- whether the empty word is a word; whether a letter may be first, or last, in a word (exactly if some word begins, or ends, with it:
-- FirstLast.antt); whether an arc leads from one letter to another
pub record Positions : Type 0 where
  pub nullable : Bool
  pub first : ℕ → Bool
  pub last : ℕ → Bool
  pub follow : ℕ → ℕ → Bool

-- no letter
abbrev pub bare : Bool → Positions
bare e = record { nullable = e; first = λ i. false; last = λ i. false; follow = λ i j. false }

-- letter n alone
abbrev pub single : ℕ → Positions
single n = record { nullable = false; first = λ i. eqb i n; last = λ i. eqb i n; follow = λ i j. false }

-- p and then q: an arc from each last letter of p to each first of q
abbrev pub joint : Positions → Positions → Positions
joint p q = record {
  nullable = p.nullable && q.nullable;
  first = λ i. p.first i || p.nullable && q.first i;
  last = λ i. q.last i || q.nullable && p.last i;
  follow = λ i j. p.follow i j || q.follow i j || p.last i && q.first j;
}

-- p or q
abbrev pub choice : Positions → Positions → Positions
choice p q = record {
  nullable = p.nullable || q.nullable;
  first = λ i. p.first i || q.first i;
  last = λ i. p.last i || q.last i;
  follow = λ i j. p.follow i j || q.follow i j;
}

-- p or nothing
abbrev pub perhaps : Positions → Positions
perhaps p = record { nullable = true; first = p.first; last = p.last; follow = p.follow }

-- p once or more: an arc from each last letter to each first
abbrev pub again : Positions → Positions
again p = record { nullable = p.nullable; first = p.first; last = p.last; follow = λ i j. p.follow i j || p.last i && p.first j }

-- The letters are numbered from n on.
unfoldable pub numbered : ℕ → Opened → Positions
numbered n (letter a) = single n
numbered n (joining r s) = joint (numbered n r) (numbered (n + letters r) s)
numbered n (alternation r s) = choice (numbered n r) (numbered (n + letters r) s)
numbered n (optional r) = perhaps (numbered n r)
numbered n (star r) = perhaps (again (numbered n r))
numbered n (plus r) = again (numbered n r)
numbered n empty = bare true
numbered n never = bare false

-- Whether letter j may follow letter i, or be first if i is 0; and whether a word may end after letter i, or be empty if i is 0.
abbrev pub follows : Positions → ℕ → ℕ → Bool
follows p zero j = p.first j
follows p (suc i) j = p.follow (suc i) j

abbrev pub ending : Positions → ℕ → Bool
ending p zero = p.nullable
ending p (suc i) = p.last (suc i)

-- the automaton with k letters, their labels, and their positions
abbrev pub assembled : ℕ → (ℕ → ℕ) → Positions → Automaton
assembled k label p = record { letters = k; label = label; follow = follows p; ends = ending p }

abbrev pub label_at : Opened → ℕ → ℕ
label_at r i = get_or (labels r) (i - 1) 0

unfoldable pub position_automaton : Opened → Automaton
position_automaton r = assembled (letters r) (label_at r) (numbered 1 r)

abbrev pub automaton_of : List ℕ → Tree → Automaton
automaton_of A t = position_automaton (opened A t)
