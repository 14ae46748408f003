-- The text of replies.
use Rattle.std.specs.Prelude.{◌≡◌, ℕ, List, ◌++◌, flat_map, codes, decimal, Result, OnOk, OnErr}
use Rattle.pool_io.specs.declared.sink.Sink.{Ghosts as Sink}
use Rattle.pool_io.specs.Writes.{Writes}
use Rattle.store_script.specs.declared.quad.Quad.{Quad}
use Rattle.store_script.specs.declared.answered.Answered.{Answered}
use Rattle.store_script.specs.declared.answered.Answered.TheVariants.{Done, Full, Absent, There, Value}

-- a key and its four numbers, in plain decimal
abbrev pub value_text : ℕ → Quad → List ℕ
value_text key value =
    decimal key ++ codes " " ++ decimal value.a ++ codes " " ++ decimal value.b ++ codes " "
    ++ decimal value.c ++ codes " " ++ decimal value.d

-- the reply that an answer is
abbrev pub reply_text : Answered → List ℕ
reply_text Done = codes "ok"
reply_text Full = codes "full"
reply_text Absent = codes "none"
reply_text There = codes "there"
reply_text (Value key value) = value_text key value

-- the line of a reply to a command of a file
abbrev pub reply_line : ℕ → Answered → List ℕ
reply_line file answer = decimal file ++ codes ": " ++ reply_text answer ++ codes "\n"

-- the lines of the replies to a file
abbrev pub replies_text : ℕ → List Answered → List ℕ
replies_text file answers = flat_map (reply_line file) answers

-- the old text of a page was written in part, and what wasn't is its new text; after Err the whole was to be written
pub record Flushes {K T E : Type 0} (sink : Sink K) (before after : K) (old new : List ℕ) (result : Result T E) : Type 0 where
  pub written : OnOk result ((text : List ℕ) × Writes sink text before after result × (old ≡ text ++ new))
  pub part : OnErr result (Writes sink old before after result)
