-- What each answer reports, computed.
use Rattle.std.specs.Prelude.{◌≡◌, refl, true, false, Ok, Err}
use Rattle.refusal.specs.declared.Refusal.TheVariants.{Work}
use Rattle.refusal.specs.Verdict.{passed, refused}
use Rattle.answers.specs.Judgement.{report, reported as judgement}
use Rattle.answers.specs.Decoded.{reported as of_decode}
use Rattle.answers.specs.Reading.{reported as of_read}

record Examples : Type 0 where
  -- Decode: price 7 and a word of length 2; Read: also a form of 5 words
  decoded_path : of_decode (Ok (record { price = 7; length = 2 })) ≡ record { number = 0; price = 7; filled = 2; form = 0 }
  decoded_refused : of_decode (Err Work) ≡ record { number = 15; price = 0; filled = 0; form = 0 }
  read_path : of_read (Ok (record { price = 7; length = 2; form = 5 })) ≡ record { number = 0; price = 7; filled = 2; form = 5 }
  read_refused : of_read (Err Work) ≡ record { number = 15; price = 0; filled = 0; form = 0 }
  accepted : judgement (Ok true) ≡ record { number = 0; accepted = true }
  rejected : judgement (Ok false) ≡ record { number = 0; accepted = false }
  judge_refused : judgement (Err Work) ≡ record { number = 15; accepted = false }
  verdict_accepted : report (passed true) ≡ record { number = 0; accepted = true }
  verdict_rejected : report (passed false) ≡ record { number = 0; accepted = false }
  verdict_refused : report (refused Work) ≡ record { number = 15; accepted = false }

examples : Examples
examples = record {
  decoded_path = refl;
  decoded_refused = refl;
  read_path = refl;
  read_refused = refl;
  accepted = refl;
  rejected = refl;
  judge_refused = refl;
  verdict_accepted = refl;
  verdict_rejected = refl;
  verdict_refused = refl;
}
