-- how many blocks a process keeps, read off its view and the words
use Rattle.std.specs.Prelude.{ℕ, ◌+◌, ◌*◌, Bool, if◌then◌else◌, List, length}
use Rattle.word_layout.specs.Sizes.{Sizes}
use Rattle.word_layout.specs.Names.{word_at}
use Rattle.word_layout.specs.Packing.{value_of, reply_of}
use Rattle.word_layout.specs.declared.announced.Wish.{Wish}
use Rattle.word_layout.specs.declared.announced.Wish.TheVariants.{Take, Give}
use Rattle.word_layout.specs.declared.name.WordName.TheVariants.{RecordWord, Announcement}
use Rattle.word_layout.specs.declared.reply.Reply.{Reply}
use Rattle.word_layout.specs.declared.reply.Reply.TheVariants.{Nothing, Took, Gave}
use Rattle.transfer_machine.specs.Tries.{is_pending}
use Rattle.transfer_machine.specs.Words.{current_record}
use Rattle.transfer_machine.specs.declared.transfer.TransferView.{TransferView}
use Rattle.pool_machine.specs.declared.view.ProcessView.{ProcessView}
use Rattle.transfer_invariant.specs.Progress.{has_announced, has_only_begun}
use Rattle.interleaving_core.specs.Moves.{CoreState, view_at}

-- the reply to a process in the current record
abbrev pub reply_value_at : Sizes → List ℕ → ℕ → ℕ
reply_value_at sizes words process =
    value_of (word_at sizes words (RecordWord (current_record sizes words) (sizes.processes + 2 + process)))

-- whether the announcement of a process pends: the current record doesn't reply to it yet
abbrev pub pends_at : Sizes → List ℕ → ℕ → Bool
pends_at sizes words process = is_pending (word_at sizes words (Announcement process)) (reply_value_at sizes words process)

-- how many batches a transfer keeps that isn't applied: a give has one
abbrev pub given_batches : Wish → ℕ
given_batches Take = 0
given_batches (Give head) = 1

-- how many batches a reply brings
abbrev pub brought_batches : Reply → ℕ
brought_batches Nothing = 0
brought_batches (Took head) = 1
brought_batches Gave = 0

-- how many batches an applied transfer keeps: a take has what the reply brings
abbrev pub taken_batches : Wish → Reply → ℕ
taken_batches Take reply = brought_batches reply
taken_batches (Give head) reply = 0

-- how many batches an announced transfer keeps
abbrev pub announced_batches : Bool → Wish → Reply → ℕ
announced_batches pends wish reply = if pends then given_batches wish else taken_batches wish reply

-- how many batches a process keeps in transit: of a transfer that is begun or announced
abbrev pub in_transit : Sizes → List ℕ → ℕ → TransferView → ℕ
in_transit sizes words process v =
    if has_only_begun v.next then given_batches v.wish
    else (if has_announced v.next
    then announced_batches (pends_at sizes words process) v.wish (reply_of (reply_value_at sizes words process))
    else 0)

-- how many blocks a process with this view keeps: its current list, its spares, and its batch in transit
abbrev pub kept_by : Sizes → List ℕ → ℕ → ProcessView → ℕ
kept_by sizes words process v = v.pool.plan.current + sizes.length * (length v.pool.heads + in_transit sizes words process v.transfer)

-- how many blocks a process keeps
abbrev pub kept : CoreState → ℕ → ℕ
kept s process = kept_by s.sizes s.words process (view_at s process)
