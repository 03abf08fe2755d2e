-- Refusals 1, 2 and 3, test by test.
use Rattle.std.specs.Prelude.{ℕ, ◌<◌, ◌≤◌, ◌≡◌, true, false, ◌↔◌, length}
use Rattle.std.proofs.Common.{sym, ap, ◌∙◌, arith}
use Rattle.std.proofs.Math.Bool.{not}
use mathlib.Core.List.{List, [], ◌∷◌}
use Rattle.std.proofs.lemmas.Bool.{not-false}
use Rattle.lists.proofs.RangeLaws.{range_below, range_above, range_inside, range_true}
use Rattle.lists.specs.Lists.{in_range}
use Rattle.lists.specs.Each.{all, Each}
use Rattle.lists.proofs.EachLaws.{all_each, each_all}
use Rattle.lists.proofs.OrderLaws.{and_left, and_right, and_both, never_true, same_truth}
use Rattle.refusal.specs.declared.Refusal.TheVariants.{Alphabet, TextLength, TextByte}
use Rattle.std.specs.Prelude.{Ok, Err}
use Rattle.refusal.specs.Verdict.{Check, check, first_refusal}
use Rattle.refusal.proofs.VerdictLaws.{first_holds, first_fails, first_passed}
use Rattle.alphabet.specs.Alphabet.{is_alphabet, text_checks}

module _ (A : List ℕ) where
  printable : (all (in_range 32 126) A ≡ true) ↔ Each (λ b. (32 ≤ b) × (b ≤ 126)) A
  printable = (
    all_each (in_range 32 126) (λ b. (32 ≤ b) × (b ≤ 126)) (range_true 32 126) A,
    each_all (in_range 32 126) (λ b. (32 ≤ b) × (b ≤ 126)) (λ b h. range_inside 32 126 b h.0 h.1) A,
  )

  -- Refusal 1 goes by the number of bytes and by each byte, and by nothing else: a character may be listed more than once.
  pub alphabet_exactly : (is_alphabet A ≡ true) ↔ ((1 ≤ length A) × (length A ≤ 95) × Each (λ b. (32 ≤ b) × (b ≤ 126)) A)
  alphabet_exactly = (
    λ e.
        let size = range_true 1 95 (length A) (and_left (in_range 1 95 (length A)) (all (in_range 32 126) A) e) in
        (size.0, size.1, printable.0 (and_right (in_range 1 95 (length A)) (all (in_range 32 126) A) e)),
    λ h. and_both (in_range 1 95 (length A)) (all (in_range 32 126) A) (range_inside 1 95 (length A) h.0 h.1) (printable.1 h.2),
  )

  pub alphabet_short : length A < 1 → is_alphabet A ≡ false
  alphabet_short h = never_true (is_alphabet A) (λ e. let l = (alphabet_exactly.0 e).0 in omega arith)

  pub alphabet_long : 95 < length A → is_alphabet A ≡ false
  alphabet_long h = never_true (is_alphabet A) (λ e. let l = (alphabet_exactly.0 e).1 in omega arith)

  pub alphabet_sized : 1 ≤ length A → length A ≤ 95 → is_alphabet A ≡ all (in_range 32 126) A
  alphabet_sized l h =
      same_truth (is_alphabet A) (all (in_range 32 126) A) (λ e. printable.1 (alphabet_exactly.0 e).2) (λ e. alphabet_exactly.1 (l, h, printable.0 e))

module _ (A s : List ℕ) where
  abbrev bytes : List Check
  bytes = check (not (all (in_range 32 126) s)) TextByte ∷ []

  pub refused_alphabet : is_alphabet A ≡ false → first_refusal (text_checks A s) ≡ Err Alphabet
  refused_alphabet e = first_holds (not (is_alphabet A)) Alphabet (check (not (in_range 1 255 (length s))) TextLength ∷ bytes) (ap not e)

  module _ (alphabet : is_alphabet A ≡ true) where
    past : first_refusal (text_checks A s) ≡ first_refusal (check (not (in_range 1 255 (length s))) TextLength ∷ bytes)
    past = first_fails (not (is_alphabet A)) Alphabet (check (not (in_range 1 255 (length s))) TextLength ∷ bytes) (ap not alphabet)

    pub refused_short : length s < 1 → first_refusal (text_checks A s) ≡ Err TextLength
    refused_short h = past ∙ first_holds (not (in_range 1 255 (length s))) TextLength bytes (ap not (range_below 1 255 (length s) h))

    pub refused_long : 255 < length s → first_refusal (text_checks A s) ≡ Err TextLength
    refused_long h = past ∙ first_holds (not (in_range 1 255 (length s))) TextLength bytes (ap not (range_above 1 255 (length s) h))

    module _ (low : 1 ≤ length s) (high : length s ≤ 255) where
      past_length : first_refusal (text_checks A s) ≡ first_refusal bytes
      past_length = past ∙ first_fails (not (in_range 1 255 (length s))) TextLength bytes (ap not (range_inside 1 255 (length s) low high))

      pub refused_byte : all (in_range 32 126) s ≡ false → first_refusal (text_checks A s) ≡ Err TextByte
      refused_byte e = past_length ∙ first_holds (not (all (in_range 32 126) s)) TextByte [] (ap not e)

      pub text_passed : all (in_range 32 126) s ≡ true → first_refusal (text_checks A s) ≡ Ok tt
      unfolding first_refusal
      text_passed e = past_length ∙ first_fails (not (all (in_range 32 126) s)) TextByte [] (ap not e)

  -- past the checks the alphabet has at most 95 bytes
  pub text_alphabet : Ok tt ≡ first_refusal (text_checks A s) → length A ≤ 95
  text_alphabet e =
      let a = first_passed (not (is_alphabet A)) Alphabet (check (not (in_range 1 255 (length s))) TextLength ∷ bytes) (sym e) in
      ((alphabet_exactly A).0 (not-false (is_alphabet A) a.0)).1
