-- Law: the low bytes of keys are the labels of their letters.
use Rattle.std.specs.Prelude.{ℕ, List}
use Rattle.std.proofs.Common.{arith}
use Rattle.automaton.specs.Valid.{Valid}
use Rattle.trellis_keys.specs.Keys.{KeysFilled, Keys}

-- the low bytes of keys that were written are the labels
pub keys_labels :
    {f column work : List ℕ} {next : ℕ} {before after : List ℕ} → Valid f → KeysFilled f column work next before after → Keys f after
keys_labels {f} {column} {work} {next} {before} {after} valid filled =
    record {
      label = λ j l h. let e = filled.is j l (omega arith) in let x = (valid.letter j l h).high in let k = valid.head.alphabet_high in omega arith;
    }
