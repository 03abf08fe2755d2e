-- Parts of a text as the parser answers them: joined, repeated, in parentheses.
use Rattle.std.specs.Prelude.{List, cond, ℕ, ◌+◌, ◌*◌, get_or, eqb, Option, Some, None, Result, Ok, Err}
use Prim.Native.Char.{code}
use Rattle.refusal.specs.declared.Refusal.TheVariants as refusal
use Rattle.regex_tree.specs.Tree.{onward}
use Rattle.regex_tree.specs.Letters.{copies_of}
use Rattle.regex_tree.specs.Few.{few}
use Rattle.refusal.specs.declared.Refusal.{Refusal}
use Rattle.regex_set.specs.declared.Part.{Part}
use Rattle.regex_set.specs.Answers.{part}
use Rattle.regex_repetition.specs.declared.Repeats.{Repeats}

-- a part that goes on after n letters
abbrev pub add : ℕ → Result Part Refusal → Result Part Refusal
add n (Ok p) = Ok (part p.end (few (n + p.letters)))
add n (Err x) = Err x

-- how many copies a repetition opens into
abbrev pub copies_in : ℕ → Option ℕ → ℕ
copies_in least (Some most) = most
copies_in least None = copies_of (onward least)

-- a part of n letters, repeated
abbrev pub repeated : ℕ → Result Repeats Refusal → Result Part Refusal
repeated n (Ok r) = Ok (part r.end (few (copies_in r.least r.most * n)))
repeated n (Err x) = Err x

-- a group's content, and the `)` after it
abbrev pub closed : List ℕ → Result Part Refusal → Result Part Refusal
closed text (Ok p) = cond (eqb (get_or text p.end 0) (code ")")) (Ok (part (p.end + 1) p.letters)) (Err refusal.MisplacedSign)
closed text (Err x) = Err x
