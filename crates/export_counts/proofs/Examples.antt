-- What is handed back for a report and for a judgement, and in which order, computed.
use Rattle.std.specs.Prelude.{ℕ, ◌≡◌, refl, true, false, List, [], ◌∷◌}
use Rattle.refusal.specs.declared.Refusal.TheVariants.{Work}
use Rattle.refusal.specs.Report.{Report, turned_away}
use Rattle.export_counts.specs.Handed.{length_alone, price_and_length, price_and_lengths, Hands, HandsJudgement}

-- a reading of price 7: a word of 2 labels, a form of 5 words
abbrev reading : Report
reading = record { number = 0; price = 7; filled = 2; form = 5 }

record Examples : Type 0 where
  length_handed : length_alone reading ≡ 2 ∷ []
  price_first : price_and_length reading ≡ 7 ∷ 2 ∷ []
  form_last : price_and_lengths reading ≡ 7 ∷ 2 ∷ 5 ∷ []
  zeros : price_and_lengths (turned_away Work) ≡ 0 ∷ 0 ∷ 0 ∷ []
  -- 1 for an accepted word, 0 for a rejected one and at a refusal
  accepted : (handed : List ℕ) (result : ℕ) → HandsJudgement (record { number = 0; accepted = true }) handed result → (handed ≡ 1 ∷ []) × (result ≡ 0)
  rejected : (handed : List ℕ) (result : ℕ) → HandsJudgement (record { number = 0; accepted = false }) handed result → (handed ≡ 0 ∷ []) × (result ≡ 0)
  refused : (handed : List ℕ) (result : ℕ) → HandsJudgement (record { number = 11; accepted = false }) handed result → (handed ≡ 0 ∷ []) × (result ≡ 11)
  -- what is handed back for that reading
  handed_back : (handed : List ℕ) (result : ℕ) → Hands price_and_lengths reading handed result → (handed ≡ 7 ∷ 2 ∷ 5 ∷ []) × (result ≡ 0)

examples : Examples
examples = record {
  length_handed = refl;
  price_first = refl;
  form_last = refl;
  zeros = refl;
  accepted = λ handed result h. (h.accepted, h.number);
  rejected = λ handed result h. (h.accepted, h.number);
  refused = λ handed result h. (h.accepted, h.number);
  handed_back = λ handed result h. (h.list, h.number);
}
