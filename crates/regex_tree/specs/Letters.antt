-- How many letters an expression opens into (document 01, "Opening and the compiled form"; over 127 is refusal 9).
use Rattle.std.specs.Prelude.{List, [], ◌∷◌, cond, ℕ, zero, suc, ◌+◌, ◌*◌}
use Rattle.regex_tree.specs.Tree.{Count, between, onward, Set, member, Tree, set, group, times, join, either}

-- how many labels of the alphabet a set has
unfoldable pub labels_of : List ℕ → Set → ℕ
labels_of [] c = 0
labels_of (b ∷ A) c = cond (member c b) 1 0 + labels_of A c

-- `r{n,m}` opens into n copies and m - n optionals, `r{n,}` into n - 1 copies and r+, or r* for n = 0
abbrev pub copies_of : Count → ℕ
copies_of (between n m) = m
copies_of (onward zero) = 1
copies_of (onward (suc n)) = suc n

unfoldable pub letter_count : List ℕ → Tree → ℕ
letter_count A (set c) = labels_of A c
letter_count A (group r) = letter_count A r
letter_count A (times r c) = copies_of c * letter_count A r
letter_count A (join r s) = letter_count A r + letter_count A s
letter_count A (either r s) = letter_count A r + letter_count A s
