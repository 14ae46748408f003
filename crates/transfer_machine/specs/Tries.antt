-- The draft of a try: the new state that it works out of the loaded words, one announcement after the other.
use Rattle.std.specs.Prelude.{ℕ, ◌+◌, ◌-◌, ◌%◌, ◌<◌, ◌≤◌, ◌==◌, nat_lt, Bool, true, false, not, ◌&&◌, if◌then◌else◌, slice_index, slice_set}
use Rattle.word_layout.specs.Packing.{tag_of, value_of, wish_of, reply_value, is_odd_reply, FitsReply}
use Rattle.word_layout.specs.declared.announced.Wish.{Wish}
use Rattle.word_layout.specs.declared.announced.Wish.TheVariants.{Take, Give}
use Rattle.word_layout.specs.declared.reply.Reply.{Reply}
use Rattle.word_layout.specs.declared.reply.Reply.TheVariants.{Nothing, Took, Gave}
use Rattle.transfer_machine.specs.Loads.{loaded_base, overlay_length, overlay_head, loaded_reply}
use Rattle.transfer_machine.specs.declared.loaded.Loaded.{Loaded}
use Rattle.transfer_machine.specs.declared.try_draft.TryDraft.{TryDraft}

-- whether the number of an announcement is odd
abbrev pub is_odd_transfer : ℕ → Bool
is_odd_transfer word = tag_of word % 2 == 1

-- an announcement is pending against a reply where one of them is odd and the other isn't
abbrev pub is_pending : ℕ → ℕ → Bool
is_pending word reply = if is_odd_transfer word then not (is_odd_reply reply) else is_odd_reply reply

-- the wish of an announcement
abbrev pub announced_wish : ℕ → Wish
announced_wish word = wish_of (value_of word)

-- a take wants a batch
abbrev pub is_take : Wish → Bool
is_take Take = true
is_take (Give head) = false

-- the draft before the first announcement: all content lies below the working base
abbrev pub begun_draft : Loaded → TryDraft → TryDraft
begun_draft loaded draft = record draft { base = loaded_base loaded + overlay_length loaded; overlay = 0 }

-- whether a take gets its batch from a slot: nothing was given in this try, and the place is below the loaded overlay
abbrev pub takes_from_slot : Loaded → TryDraft → Bool
takes_from_slot loaded draft = (draft.overlay == 0) && (nat_lt 0 draft.base && nat_lt (draft.base - 1) (loaded_base loaded))

-- whether the announcement of a process needs that slot
abbrev pub pops_slot : ℕ → Loaded → ℕ → ℕ → TryDraft → Bool
pops_slot processes loaded process word draft =
    is_pending word (loaded_reply processes loaded process) && (is_take (announced_wish word) && takes_from_slot loaded draft)

-- the batch at the place below the working base: from the loaded overlay, or the one that was popped
abbrev pub batch_below : Loaded → ℕ → TryDraft → ℕ
batch_below loaded popped draft =
    if nat_lt (draft.base - 1) (loaded_base loaded) then popped else overlay_head loaded (draft.base - 1 - loaded_base loaded)

-- what a take is answered: the last batch of the working overlay, else the one below the working base
abbrev pub take_reply : Loaded → ℕ → TryDraft → Reply
take_reply loaded popped draft =
    if nat_lt 0 draft.overlay
    then Took (slice_index draft.heads (draft.overlay - 1))
    else (if draft.base == 0 then Nothing else Took (batch_below loaded popped draft))

-- what a wish is answered
abbrev pub wish_reply : Loaded → ℕ → TryDraft → Wish → Reply
wish_reply loaded popped draft Take = take_reply loaded popped draft
wish_reply loaded popped draft (Give head) = Gave

-- a wish is granted: a take lowers the working overlay, else the working base; a give adds its head at the end
abbrev pub granted : Wish → TryDraft → TryDraft
granted Take draft = if nat_lt 0 draft.overlay then record draft { overlay = draft.overlay - 1 } else record draft { base = draft.base - 1 }
granted (Give head) draft = record draft { overlay = draft.overlay + 1; heads = slice_set draft.heads draft.overlay head }

-- the reply of a process is noted
abbrev pub replied : ℕ → ℕ → TryDraft → TryDraft
replied process reply draft = record draft { replies = slice_set draft.replies process reply }

-- the draft after the announcement of one more process: a pending one is granted, any other keeps its reply
abbrev pub after_announcement : ℕ → Loaded → ℕ → ℕ → ℕ → TryDraft → TryDraft
after_announcement processes loaded process word popped draft =
    if is_pending word (loaded_reply processes loaded process)
    then (let wish = announced_wish word in
    replied process (reply_value (is_odd_transfer word) (wish_reply loaded popped draft wish)) (granted wish draft))
    else replied process (loaded_reply processes loaded process) draft

-- the value of a word of the record that the draft is for: the base, the overlay's length, the overlay and zeros, the replies
abbrev pub drafted_value : ℕ → TryDraft → ℕ → ℕ
drafted_value processes draft index =
    if index == 0 then draft.base
    else (if index == 1 then draft.overlay
    else (if nat_lt index (processes + 2) then (if nat_lt (index - 2) draft.overlay then slice_index draft.heads (index - 2) else 0)
    else slice_index draft.replies (index - (processes + 2))))

-- there is room for one more head, and what is answered fits a reply
pub record CanApply (processes : ℕ) (loaded : Loaded) (process word popped : ℕ) (draft : TryDraft) : Type 0 where
  pub few : processes ≤ 32
  pub among : process < processes
  pub room : draft.overlay < 32
  pub near : draft.base ≤ loaded_base loaded + 64
  pub answer : FitsReply (wish_reply loaded popped draft (announced_wish word))
