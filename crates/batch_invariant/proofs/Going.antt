-- a step of an announced transfer that isn't its last: the transfer goes on with its wish and its age
use Rattle.std.proofs.Common.{◌≡◌, ℕ, ◌+◌, ◌==◌, Bool, true, false, refl, arith}
use Rattle.std.specs.Prelude.{if◌then◌else◌, nat_lt, slice_set}
use Rattle.word_layout.specs.Sizes.{Sizes}
use Rattle.word_layout.specs.Names.{record_words}
use Rattle.word_layout.specs.Packing.{tag_of}
use Rattle.transfer_machine.specs.Loads.{loaded_tag}
use Rattle.transfer_machine.specs.Tries.{begun_draft, pops_slot, after_announcement}
use Rattle.transfer_machine.specs.Machine.{met_at, met_in_try, after_try, try_ended, installed, after_record}
use Rattle.transfer_machine.specs.Machine.{after_heard, record_word_loaded, announcement_loaded}
use Rattle.transfer_machine.specs.declared.loaded.Loaded.{Loaded}
use Rattle.transfer_machine.specs.declared.transfer.TransferView.{TransferView}
use Rattle.transfer_machine.specs.declared.stage.NextStep.{NextStep}
use Rattle.transfer_machine.specs.declared.stage.NextStep.TheVariants.{Rest, Announce, Try, LoadFinalState, LoadReply}
use Rattle.transfer_machine.specs.declared.stage.TryStep.{TryStep}
use Rattle.transfer_machine.specs.declared.stage.TryStep.TheVariants.{LoadState, LoadRecordWord, LoadCoveredSlot, ExchangeSlot}
use Rattle.transfer_machine.specs.declared.stage.TryStep.TheVariants.{LoadAnnouncement, LoadPoppedSlot, StoreRecordWord, ExchangeState}
use Rattle.transfer_invariant.specs.Progress.{has_announced, goes_on}
use Rattle.batch_invariant.proofs.Moving.{SameAnnouncement}

-- one of two views
either_view : (t : Bool) (v x y : TransferView) → SameAnnouncement v x → SameAnnouncement v y → SameAnnouncement v (if t then x else y)
either_view true v x y gx gy = gx
either_view false v x y gx gy = gy

-- the views that follow
after_try_announced : (second : Bool) → has_announced (after_try second) ≡ true
after_try_announced true = refl
after_try_announced false = refl

ended_same : (second : Bool) (v : TransferView) → has_announced v.next ≡ true → SameAnnouncement v (try_ended second v)
ended_same second v h = record { was = h; announced = after_try_announced second; wish = refl; age = refl }

record_word_same : (sizes : Sizes) (second : Bool) (index : ℕ) (loaded : Loaded) (v : TransferView) → has_announced v.next ≡ true
    → SameAnnouncement v (record_word_loaded sizes second index loaded v)
record_word_same sizes second index loaded v h = either_view (index + 1 == record_words sizes) v
    (record v { loaded = loaded; next = Try second (after_record loaded); draft = begun_draft loaded v.draft })
    (record v { loaded = loaded; next = Try second (LoadRecordWord (index + 1)) })
    (record { was = h; announced = refl; wish = refl; age = refl }) (record { was = h; announced = refl; wish = refl; age = refl })

announcement_same : (sizes : Sizes) (second : Bool) (process word : ℕ) (v : TransferView) → has_announced v.next ≡ true
    → SameAnnouncement v (announcement_loaded sizes second process word v)
announcement_same sizes second process word v h =
    let loaded = record v.loaded { announcements = slice_set v.loaded.announcements process word } in
    let draft = after_announcement sizes.processes v.loaded process word 0 v.draft in
    either_view (pops_slot sizes.processes v.loaded process word v.draft) v
    (record v { loaded = loaded; next = Try second (LoadPoppedSlot process) })
    (record v { loaded = loaded; next = Try second (after_heard sizes process); draft = draft })
    (record { was = h; announced = refl; wish = refl; age = refl }) (record { was = h; announced = refl; wish = refl; age = refl })

-- a step of a try goes on
try_same : (sizes : Sizes) (v : TransferView) (word : ℕ) (second : Bool) (step : TryStep) → has_announced v.next ≡ true
    → SameAnnouncement v (met_in_try sizes v word second step)
try_same sizes v word second LoadState h = record { was = h; announced = refl; wish = refl; age = refl }
try_same sizes v word second (LoadRecordWord index) h =
    let loaded = record v.loaded { record_words = slice_set v.loaded.record_words index word } in
    either_view (nat_lt (loaded_tag v.loaded) (tag_of word)) v (try_ended second v) (record_word_loaded sizes second index loaded v)
    (ended_same second v h) (record_word_same sizes second index loaded v h)
try_same sizes v word second (LoadCoveredSlot offset) h = record { was = h; announced = refl; wish = refl; age = refl }
try_same sizes v word second (ExchangeSlot offset) h = record { was = h; announced = refl; wish = refl; age = refl }
try_same sizes v word second (LoadAnnouncement process) h = announcement_same sizes second process word v h
try_same sizes v word second (LoadPoppedSlot process) h = record { was = h; announced = refl; wish = refl; age = refl }
try_same sizes v word second (StoreRecordWord index) h = record { was = h; announced = refl; wish = refl; age = refl }
try_same sizes v word second ExchangeState h = either_view (word == v.loaded.state) v (installed v) (try_ended second v)
    (record { was = h; announced = refl; wish = refl; age = refl }) (ended_same second v h)

-- a step between the announcement and the reply is one of an announced transfer
pub goes_on_announced : (s : NextStep) → goes_on s ≡ true → has_announced s ≡ true
goes_on_announced s h = grind arith

never : false ≡ true → ⊥
never h = grind arith

-- after such a step the transfer is still announced, with the same wish and age
pub met_same_announcement : (sizes : Sizes) (v : TransferView) (word : ℕ) (s : NextStep) → goes_on s ≡ true → has_announced v.next ≡ true
    → SameAnnouncement v (met_at sizes v word s)
met_same_announcement sizes v word Rest g h = absurd (never g)
met_same_announcement sizes v word Announce g h = absurd (never g)
met_same_announcement sizes v word (Try second step) g h = try_same sizes v word second step h
met_same_announcement sizes v word LoadFinalState g h = record { was = h; announced = refl; wish = refl; age = refl }
met_same_announcement sizes v word LoadReply g h = absurd (never g)
