-- What the functions of this crate answer, by the definitions of `regex`.
use Rattle.std.specs.Prelude.{List, ℕ, ◌+◌, cond, ◌&&◌, leb, eqb, get_or, drop, Option as Found, Some, None, Result, Ok, Err}
use Rattle.regex_tree.specs.Tree.{Count, between, onward}
use Rattle.regex_tree.specs.Parsing.{Parsing, found, fault, enclosed}
use Rattle.text.specs.Text.{split}
use Rattle.text.specs.Places.{place}
use Rattle.regex_repetition.specs.declared.Repeats.{Repeats}
use Rattle.refusal.specs.declared.Refusal.{Refusal}
use Rattle.std.proofs.Math.Option.{Option, some, none}
use Rattle.refusal.specs.declared.Refusal.TheVariants as refusal
use Prim.Native.Char.{code}
use Rattle.regex_tree.specs.Repetition.{counts}

-- at least n words and at most m, or without a limit; then where it ends
abbrev pub several : ℕ → Found ℕ → ℕ → Repeats
several n m e = record { least = n; most = m; end = e }

-- a count, and where it ends
abbrev pub times : Count → ℕ → Result Repeats Refusal
times (between n m) e = Ok (several n (Some m) e)
times (onward n) e = Ok (several n None e)

abbrev pub repeats_of : List ℕ → Parsing Count → Result Repeats Refusal
repeats_of text (found c r) = times c (place text r)
repeats_of text (fault n r) = Err n

-- a number, or the refusal where there is none
abbrev pub number_found : Option ℕ → Result ℕ Refusal
number_found none = Err refusal.Count
number_found (some n) = Ok n

-- from n to m, where both are in range
unfoldable pub ranged : ℕ → ℕ → ℕ → Result Repeats Refusal
ranged n m e = cond (leb n m && leb 1 m && leb m 255) (Ok (several n (Some m) e)) (Err refusal.Count)

-- a count that ends at e, if it is well formed
abbrev pub counted : Option Count → ℕ → Result Repeats Refusal
counted none e = Err refusal.Count
counted (some c) e = times c e

-- the repetition in braces at a place
unfoldable pub braced : List ℕ → ℕ → Result Repeats Refusal
braced text at = repeats_of text (enclosed refusal.Count (drop at text) counts (split "}" (drop (at + 1) text)))

-- the place after one `?`, if there is one
unfoldable pub modified : List ℕ → ℕ → ℕ
modified text at = cond (eqb (get_or text at 0) (code "?")) (at + 1) at
