-- What is answered to a text of which so many bytes may be read.
use Rattle.std.proofs.Common.{◌≡◌, ℕ, ◌≤◌, List, [], ◌∷◌, length, Option, Some, inl, inr}
use Rattle.std.specs.Prelude.{Result, Ok, Err, IfOk}
use Rattle.line_text.specs.declared.fault.TextFault.{TextFault}
use Rattle.line_text.specs.declared.fault.TextFault.TheVariants.{ReadFault, TooLong, BadLine, NoMemory}
use Rattle.line_text.specs.Answers.{AnswersFor, AnswersTo}
use Rattle.line_text.specs.Taken.{ReadsFor, ReadsOf, Took}

module _ {T : Type 0} (IsReading : List ℕ → T → Type 0) (bad_line : List ℕ → Option ℕ) (limit : ℕ) (bytes : List ℕ) where
  -- an answer to bytes that aren't too many is one to their source
  pub answers_within : (result : Result T TextFault) → length bytes ≤ limit → AnswersTo IsReading bad_line bytes result
      → AnswersFor IsReading bad_line limit bytes result
  answers_within (Ok read) within answer = (within, answer)
  answers_within (Err (BadLine number)) within answer = (within, answer)
  answers_within (Err TooLong) within answer = absurd answer
  answers_within (Err ReadFault) within answer = tt
  answers_within (Err NoMemory) within answer = tt

  -- and the reads of such a call gave these bytes, and then nothing
  pub reads_within : (before now : List (Option ℕ)) (result : Result T TextFault) (count : T → ℕ) (total : ℕ)
      → Took before now total (Some 0 ∷ []) → total ≤ limit → IfOk result (λ read. count read ≡ total)
      → AnswersTo IsReading bad_line bytes result → ReadsFor count limit before now result
  reads_within before now (Ok read) count total took within many answer = rw many took
  reads_within before now (Err (BadLine number)) count total took within many answer =
      record { bytes = total; within = within; took = took }
  reads_within before now (Err TooLong) count total took within many answer = absurd answer
  reads_within before now (Err ReadFault) count total took within many answer = absurd answer
  reads_within before now (Err NoMemory) count total took within many answer =
      inr (record { bytes = total; within = within; took = took })

-- where a source wasn't read to its end, the fault is that of the reading
pub reads_failed : {T : Type 0} (limit : ℕ) (before now : List (Option ℕ)) (fault : TextFault) (count : T → ℕ)
    → ReadsOf limit before now (Err fault) → ReadsFor {T = T} count limit before now (Err fault)
reads_failed limit before now ReadFault count reads = reads
reads_failed limit before now TooLong count reads = reads
reads_failed limit before now (BadLine number) count reads = absurd reads
reads_failed limit before now NoMemory count reads = inl reads
