-- What the calls of C answer, of the pass that a handle owns before and after.
use Rattle.std.specs.Prelude.{◌≡◌, ℕ, ◌⊎◌, Option, Some, None}
use Rattle.block_pool.specs.Passing.{Passed}
use Rattle.pool_member.specs.Calling.{AnswersAllocate, AnswersFree, AnswersSearch, IsFaulty, ReadsWord, WritesWord}
use Rattle.pool_member.specs.declared.member.Getting.{Getting}
use Rattle.pool_member.specs.declared.member.Getting.TheVariants as getting
use Rattle.pool_member.specs.declared.member.Freeing.TheVariants as freeing
use Rattle.pool_member.specs.declared.member.WordFault.{WordFault}
use Rattle.pool_member.specs.declared.member.WordFault.TheVariants as fault

-- a closed handle answers 5 and stays closed
abbrev pub StaysClosed : Option Passed → Option Passed → ℕ → Type 0
StaysClosed old new status = old ≡ None → (status ≡ 5) × (new ≡ None)

-- with no block or number: 0
abbrev pub StaysClosedAt0 : Option Passed → Option Passed → ℕ → ℕ → Type 0
StaysClosedAt0 old new status number = old ≡ None → (status ≡ 5) × (number ≡ 0) × (new ≡ None)

-- an answer is told so: status 0 with the block, 1 for a refusal, 4 where the pass is spent
abbrev pub IsTold : Getting → ℕ → ℕ → Type 0
IsTold (getting.Got got) status block = (status ≡ 0) × (block ≡ got)
IsTold getting.Dry status block = (status ≡ 1) × (block ≡ 0)
IsTold getting.Spent status block = (status ≡ 4) × (block ≡ 0)

-- a call of an open handle that gets blocks and is answered so; it stays open
abbrev pub GetAnswered : (Getting → Passed → Passed → Type 0) → Passed → Option Passed → ℕ → ℕ → Type 0
GetAnswered answers old None status block = ⊥
GetAnswered answers old (Some new) status block = (told : Getting) × IsTold told status block × answers told old new

-- an allocate
abbrev pub AllocateAnswered : Passed → Option Passed → ℕ → ℕ → Type 0
AllocateAnswered = GetAnswered AnswersAllocate

-- a search
abbrev pub SearchAnswered : Passed → Option Passed → ℕ → ℕ → Type 0
SearchAnswered = GetAnswered AnswersSearch

-- a free: status 0 where the block went back, 2 where the pass doesn't hold it, 4 where it does and is spent
abbrev pub FreeAnswered : Passed → Option Passed → ℕ → ℕ → Type 0
FreeAnswered old None status block = ⊥
FreeAnswered old (Some new) status block =
    ((status ≡ 0) × AnswersFree block freeing.Freed old new) ⊎ (((status ≡ 2) × AnswersFree block freeing.NotHeld old new)
    ⊎ ((status ≡ 4) × AnswersFree block freeing.Spent old new))

-- the status of a fault
abbrev pub status_of : WordFault → ℕ
status_of fault.NotHeld = 2
status_of fault.NoWord = 3

-- a fault that is told by its status, with nothing changed
abbrev pub FaultAnswered : Passed → Passed → ℕ → ℕ → ℕ → Type 0
FaultAnswered old new status block index = (why : WordFault) × (status ≡ status_of why) × IsFaulty block index old new why

-- a read: status 0 with the word, else its fault
abbrev pub ReadAnswered : Passed → Option Passed → ℕ → ℕ → ℕ → ℕ → Type 0
ReadAnswered old None status value block index = ⊥
ReadAnswered old (Some new) status value block index =
    ((status ≡ 0) × ReadsWord block index value old new) ⊎ ((value ≡ 0) × FaultAnswered old new status block index)

-- a write: status 0, else its fault
abbrev pub WriteAnswered : Passed → Option Passed → ℕ → ℕ → ℕ → ℕ → Type 0
WriteAnswered old None status block index value = ⊥
WriteAnswered old (Some new) status block index value =
    ((status ≡ 0) × WritesWord block index value old new) ⊎ FaultAnswered old new status block index

-- a question: status 0 with this number, and the pass stays as it was
abbrev pub Tells : ℕ → Passed → Option Passed → ℕ → ℕ → Type 0
Tells told old new status number = (status ≡ 0) × (number ≡ told) × (new ≡ Some old)

-- a question whether this holds: status 0 with 1 where it does and 0 where it doesn't, and the pass stays as it was
abbrev pub Says : Type 0 → Passed → Option Passed → ℕ → ℕ → Type 0
Says told old new status number = (status ≡ 0) × (((number ≡ 1) × told) ⊎ ((number ≡ 0) × ¬ told)) × (new ≡ Some old)
