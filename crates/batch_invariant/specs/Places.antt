-- the batch that a process's transfer has in transit, by its head
use Rattle.std.specs.Prelude.{ℕ, ◌==◌, if◌then◌else◌, List, [], ◌∷◌}
use Rattle.word_layout.specs.Packing.{reply_of}
use Rattle.word_layout.specs.declared.announced.Wish.{Wish}
use Rattle.word_layout.specs.declared.announced.Wish.TheVariants.{Take, Give}
use Rattle.word_layout.specs.declared.reply.Reply.{Reply}
use Rattle.word_layout.specs.declared.reply.Reply.TheVariants.{Nothing, Took, Gave}
use Rattle.transfer_machine.specs.States.{StackState}
use Rattle.transfer_machine.specs.declared.transfer.TransferView.{TransferView}
use Rattle.transfer_invariant.specs.Progress.{has_announced, has_only_begun}

-- before a wish is applied: the batch of a give
abbrev pub given : Wish → List ℕ
given Take = []
given (Give head) = head ∷ []

-- the batch that a reply brings
abbrev pub brought : Reply → List ℕ
brought Nothing = []
brought (Took head) = head ∷ []
brought Gave = []

-- once a wish is applied: the batch that its reply brings to a take
abbrev pub taken : Wish → Reply → List ℕ
taken Take reply = brought reply
taken (Give head) reply = []

-- the batch in transit of a process whose transfer is announced, by the state: whether it is applied there
abbrev pub announced_batch : StackState → ℕ → TransferView → List ℕ
announced_batch s process v = if s.applied process == v.age then taken v.wish (reply_of (s.reply process)) else given v.wish

-- the batch in transit of a process, if there is one
unfoldable pub moving : StackState → ℕ → TransferView → List ℕ
moving s process v = if has_only_begun v.next then given v.wish else (if has_announced v.next then announced_batch s process v else [])
