-- Where a group is closed, and where a branch ends.
use Rattle.std.specs.Prelude.{◌≡◌, List, true, ℕ, ◌+◌, ◌≤◌, ◌<◌, length, get_or, drop, Ok, Err}
use Rattle.std.proofs.Common.{sym, ap, eq-eqb, ne_eqb}
use Prim.Native.Char.{code}
use Rattle.lists.proofs.EachLaws.{drop_here, drop_all}
use Rattle.refusal.specs.declared.Refusal.TheVariants as refusal
use Rattle.text.specs.Bytes.{bytes}
use Rattle.text.specs.Text.{one_of}
use Rattle.regex_tree.specs.Parse.{ends}
use Rattle.regex_set.specs.Answers.{part}
use Rattle.regex_count.specs.Parts.{closed}

module _ (text : List ℕ) (e n : ℕ) where
  pub closed_is : get_or text e 0 ≡ code ")" → Ok (part (e + 1) n) ≡ closed text (Ok (part e n))
  closed_is k = rw (eq-eqb (get_or text e 0) (code ")") k)

  pub closed_not : (get_or text e 0 ≡ code ")" → ⊥) → Err refusal.MisplacedSign ≡ closed text (Ok (part e n))
  closed_not k = rw (ne_eqb (get_or text e 0) (code ")") k)

-- a branch ends here
pub ends_none : (text : List ℕ) (at : ℕ) → length text ≤ at → true ≡ ends (drop at text)
ends_none text at l = sym (ap ends (drop_all text at l))

pub ends_by : (text : List ℕ) (at : ℕ) → at < length text → one_of (bytes "|)") (get_or text at 0) ≡ ends (drop at text)
ends_by text at l = sym (ap ends (drop_here 0 text at l))
