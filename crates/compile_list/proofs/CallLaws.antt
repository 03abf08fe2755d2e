-- The checks of a list, one by one, and what is left past them.
use Rattle.std.specs.Prelude.{ℕ, ◌<◌, ◌≤◌, ◌≡◌, true, false, not, length, Ok, Err}
use Rattle.std.proofs.Common.{sym, ◌∙◌}
use Rattle.std.proofs.Math.Path.{ap}
use mathlib.Core.List.{List, [], ◌∷◌}
use Rattle.std.proofs.lemmas.Bool.{not-false}
use Rattle.lists.specs.Lists.{any, in_range}
use Rattle.lists.specs.Each.{all}
use Rattle.lists.proofs.RangeLaws.{range_below, range_above, range_inside, range_true}
use Rattle.refusal.specs.declared.Refusal.{Refusal}
use Rattle.refusal.specs.declared.Refusal.TheVariants.{Alphabet, TextLength, TextByte, WordList, Foreign}
use Rattle.refusal.specs.Verdict.{refused, Check, check, if_passed, first_refusal}
use Rattle.refusal.proofs.VerdictLaws.{first_holds, first_fails, first_passed, first_refused, first_all}
use Rattle.alphabet.specs.Alphabet.{is_alphabet}
use Rattle.alphabet.proofs.AlphabetLaws.{alphabet_exactly}
use Rattle.wordlist.specs.Words.{list_byte, words, list_fault, foreign, strange}
use Rattle.wordlist.proofs.WordsLaws.{fault_exactly, foreign_bytes}
use Rattle.wordlist_build.specs.State.{Readable}
use Rattle.compile_list.specs.Call.{list_checks, formed, compile_list_call}

module _ (A s : List ℕ) where
  abbrev after_lines : List Check
  after_lines = check (foreign A (words s)) Foreign ∷ []

  abbrev after_bytes : List Check
  after_bytes = check (list_fault s) WordList ∷ after_lines

  abbrev after_length : List Check
  after_length = check (not (all list_byte s)) TextByte ∷ after_bytes

  abbrev after_alphabet : List Check
  after_alphabet = check (not (in_range 1 4096 (length s))) TextLength ∷ after_length

  pub refused_alphabet : is_alphabet A ≡ false → first_refusal (list_checks A s) ≡ Err Alphabet
  refused_alphabet e = first_holds (not (is_alphabet A)) Alphabet after_alphabet (ap not e)

  module _ (alphabet : is_alphabet A ≡ true) where
    past : first_refusal (list_checks A s) ≡ first_refusal after_alphabet
    past = first_fails (not (is_alphabet A)) Alphabet after_alphabet (ap not alphabet)

    pub refused_short : length s < 1 → first_refusal (list_checks A s) ≡ Err TextLength
    refused_short h = past ∙ first_holds (not (in_range 1 4096 (length s))) TextLength after_length (ap not (range_below 1 4096 (length s) h))

    pub refused_long : 4096 < length s → first_refusal (list_checks A s) ≡ Err TextLength
    refused_long h = past ∙ first_holds (not (in_range 1 4096 (length s))) TextLength after_length (ap not (range_above 1 4096 (length s) h))

    module _ (low : 1 ≤ length s) (high : length s ≤ 4096) where
      past_length : first_refusal (list_checks A s) ≡ first_refusal after_length
      past_length = past ∙ first_fails (not (in_range 1 4096 (length s))) TextLength after_length (ap not (range_inside 1 4096 (length s) low high))

      pub refused_byte : all list_byte s ≡ false → first_refusal (list_checks A s) ≡ Err TextByte
      refused_byte e = past_length ∙ first_holds (not (all list_byte s)) TextByte after_bytes (ap not e)

      module _ (bytes : all list_byte s ≡ true) where
        past_bytes : first_refusal (list_checks A s) ≡ first_refusal after_bytes
        past_bytes = past_length ∙ first_fails (not (all list_byte s)) TextByte after_bytes (ap not bytes)

        pub refused_lines : list_fault s ≡ true → first_refusal (list_checks A s) ≡ Err WordList
        refused_lines e = past_bytes ∙ first_holds (list_fault s) WordList after_lines e

        module _ (closed : list_fault s ≡ false) where
          past_lines : first_refusal (list_checks A s) ≡ first_refusal after_lines
          past_lines = past_bytes ∙ first_fails (list_fault s) WordList after_lines closed

          by_bytes : foreign A (words s) ≡ any (strange A) s
          by_bytes = foreign_bytes A s ((fault_exactly s).0 closed).0

          pub refused_foreign : any (strange A) s ≡ true → first_refusal (list_checks A s) ≡ Err Foreign
          refused_foreign e = past_lines ∙ first_holds (foreign A (words s)) Foreign [] (by_bytes ∙ e)

          pub list_passed : any (strange A) s ≡ false → first_refusal (list_checks A s) ≡ Ok tt
          unfolding first_refusal
          list_passed e = past_lines ∙ first_fails (foreign A (words s)) Foreign [] (by_bytes ∙ e)

  -- what passed: an alphabet, and a list of that length that can be read
  pub record PassedChecks : Type 0 where
    pub alphabet : (1 ≤ length A) × (length A ≤ 95)
    pub bytes : (1 ≤ length s) × (length s ≤ 4096)
    pub readable : Readable A s

  pub passed_checks : first_refusal (list_checks A s) ≡ Ok tt → PassedChecks
  passed_checks e =
      let a = first_passed (not (is_alphabet A)) Alphabet after_alphabet e in
      let b = first_passed (not (in_range 1 4096 (length s))) TextLength after_length a.1 in
      let c = first_passed (not (all list_byte s)) TextByte after_bytes b.1 in
      let d = first_passed (list_fault s) WordList after_lines c.1 in
      let f = first_passed (foreign A (words s)) Foreign [] d.1 in
      let size = (alphabet_exactly A).0 (not-false (is_alphabet A) a.0) in
      record {
        alphabet = (size.0, size.1);
        bytes = range_true 1 4096 (length s) (not-false (in_range 1 4096 (length s)) b.0);
        readable = record { no_fault = d.0; no_foreign = f.0 };
      }

  module _ (room : ℕ) where
    pub call_refused : (n : Refusal) → Err n ≡ first_refusal (list_checks A s) → compile_list_call A s room ≡ refused n
    unfolding compile_list_call if_passed
    call_refused n e = ap (λ v. if_passed v (formed A room)) (first_refused (words s) n (list_checks A s) (sym e))

    pub call_passed : Ok tt ≡ first_refusal (list_checks A s) → compile_list_call A s room ≡ formed A room (words s)
    unfolding compile_list_call if_passed
    call_passed e = ap (λ v. if_passed v (formed A room)) (first_all (words s) (list_checks A s) (sym e))
