-- The text of a store.
use Rattle.std.specs.Prelude.{ℕ, ◌+◌, List, [], ◌∷◌, ◌++◌}
use Rattle.store_script.specs.declared.answered.Answered.{Answered}
use Rattle.store_script.specs.Text.{replies_text}

-- the replies to files, one after the other, the first of which has this number
abbrev pub replies_from : ℕ → List (List Answered) → List ℕ
replies_from number [] = []
replies_from number (answers ∷ lists) = replies_text number answers ++ replies_from (number + 1) lists

-- the replies to all files
abbrev pub replies : List (List Answered) → List ℕ
replies lists = replies_from 1 lists
