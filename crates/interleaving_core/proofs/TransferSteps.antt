-- the step of a transfer, alone or in a call, keeps the invariant
use Rattle.std.proofs.Common.{◌≡◌, ◌≢◌, ℕ, ◌+◌, ◌<◌, ◌==◌, Bool, true, false, List, length, refl, sym, ◌∙◌, inl, inr, arith}
use Rattle.std.specs.Prelude.{if◌then◌else◌, slice_index, ◌&&◌}
use Rattle.std.proofs.lemmas.Bool.{cases_eq, false≢true}
use Rattle.std.proofs.lemmas.Bool.Decides.{nat_tests}
use Rattle.word_layout.specs.Sizes.{Sizes, blocks}
use Rattle.word_layout.specs.Packing.{reply_of}
use Rattle.word_layout.specs.declared.name.WordName.TheVariants.{Data}
use Rattle.word_layout.specs.declared.reply.Reply.{Reply}
use Rattle.word_layout.specs.declared.reply.Reply.TheVariants.{Nothing, Took, Gave}
use Rattle.pool_model.specs.declared.entry.Entry.{Entry}
use Rattle.pool_model.specs.History.{HasFewUnheld}
use Rattle.pool_model.specs.Limits.{Limits}
use Rattle.transfer_machine.specs.Machine.{action_of, met_at}
use Rattle.transfer_machine.specs.States.{StackState}
use Rattle.transfer_machine.specs.Tries.{is_pending, is_take, announced_wish}
use Rattle.transfer_machine.specs.declared.transfer.TransferView.{TransferView}
use Rattle.transfer_machine.specs.declared.stage.NextStep.{NextStep}
use Rattle.transfer_machine.specs.declared.stage.NextStep.TheVariants.{Rest, Announce, LoadFinalState, LoadReply, Try}
use Rattle.transfer_invariant.specs.Memory.{Words, Acted}
use Rattle.transfer_invariant.specs.Installing.{drafted_state}
use Rattle.transfer_invariant.specs.Progress.{has_announced, has_only_begun}
use Rattle.transfer_invariant.proofs.Acts.{leaves_other_words}
use Rattle.batch_invariant.proofs.Moving.{SameAnnouncement}
use Rattle.batch_invariant.proofs.Going.{met_same_announcement}
use Rattle.history_invariant.specs.Ledger.{Ledger, Ledgers}
use Rattle.history_invariant.specs.Steps.{Emptied, stays, empties, with_ledger}
use Rattle.interleaving_core.specs.Invariant.{KnowsOfNothing}

-- a transfer leaves the data words
pub data_stays : (sizes : Sizes) (v : TransferView) (m n : Words) (block index : ℕ) → Acted sizes (action_of sizes v) m n
    → block < blocks sizes → index < sizes.words → n (Data block index) ≡ m (Data block index)
data_stays sizes v m n block index a low within = leaves_other_words sizes v m n (Data block index) a refl (low, within)

-- a reply that says nothing
abbrev pub is_nothing : Reply → Bool
is_nothing Nothing = true
is_nothing (Took head) = false
is_nothing Gave = false

-- a reply that is told to be nothing is
pub says_nothing : (reply : Reply) → is_nothing reply ≡ true → reply ≡ Nothing
says_nothing Nothing e = refl
says_nothing (Took head) e = grind arith
says_nothing Gave e = grind arith

-- whether an exchange by this view answers the take of a process with nothing
abbrev pub finds_nothing : StackState → TransferView → ℕ → Bool
finds_nothing s v o =
    is_pending (slice_index v.loaded.announcements o) (s.reply o)
    && (is_take (announced_wish (slice_index v.loaded.announcements o)) && is_nothing (reply_of ((drafted_state s v).reply o)))

-- the ledgers once it is known who found nothing
abbrev pub known_of : (ℕ → Bool) → Ledgers → Ledgers
known_of found ledgers o = if found o then record (ledgers o) { found_nothing = true } else ledgers o

-- what is known of an empty take leaves the entries
pub known_entries : (t : Bool) (g : Ledger) → (if t then record g { found_nothing = true } else g).entries ≡ g.entries
known_entries true g = refl
known_entries false g = refl

-- and the account
pub known_account : (t : Bool) (g : Ledger) → (if t then record g { found_nothing = true } else g).account ≡ g.account
known_account true g = refl
known_account false g = refl

-- a take that finds nothing notes that few blocks were unheld
pub emptied : (limits : Limits) (history : List Entry) (t : Bool) (g : Ledger)
    → (t ≡ true → HasFewUnheld limits history (length history))
    → Emptied limits history g (if t then record g { found_nothing = true } else g)
emptied limits history true g few = empties (few refl)
emptied limits history false g few = stays

-- a take that found nothing is still known to have
pub known_found : (t : Bool) (g : Ledger) → g.found_nothing ≡ true
    → (if t then record g { found_nothing = true } else g).found_nothing ≡ true
known_found true g e = refl
known_found false g e = e

-- a process that has no take to know of
nothing_to_know : (s : StackState) (i : ℕ) (x : TransferView) (g : Ledger) → has_announced x.next ≡ false → KnowsOfNothing s i x g
nothing_to_know s i x g none = λ announced applied take nothing. absurd (false≢true (sym none ∙ announced))

-- what is known of an empty take goes on while its announcement stays
pub goes_on_knowing : (s : StackState) (i : ℕ) (v x : TransferView) (g new : Ledger) → SameAnnouncement v x
    → new.found_nothing ≡ g.found_nothing → KnowsOfNothing s i v g → KnowsOfNothing s i x new
goes_on_knowing s i v x g new goes found h =
    λ announced applied take nothing. found ∙ h goes.was (applied ∙ goes.age) (rw (sym goes.wish) take) nothing

-- the view that made a step which leaves the state
pub own_knows : (sizes : Sizes) (s : StackState) (i : ℕ) (v : TransferView) (word : ℕ) (g new : Ledger) (stage : NextStep) → v.next ≡ stage
    → (has_announced v.next ≡ false → s.applied i ≡ v.age) → (has_only_begun stage ≡ false → new.found_nothing ≡ g.found_nothing)
    → KnowsOfNothing s i v g → KnowsOfNothing s i (met_at sizes v word stage) new
own_knows sizes s i v word g new Rest e calm found h = nothing_to_know s i v new (rw e refl)
own_knows sizes s i v word g new Announce e calm found h =
    λ announced applied take nothing. absurd (later v.age (sym (calm (rw e refl)) ∙ applied))
  where
    later : (n : ℕ) → n ≡ n + 1 → ⊥
    later n e = omega (arith, e)
own_knows sizes s i v word g new LoadReply e calm found h = nothing_to_know s i (met_at sizes v word LoadReply) new refl
own_knows sizes s i v word g new (Try second step) e calm found h =
    goes_on_knowing s i v _ g new (met_same_announcement sizes v word (Try second step) refl (rw e refl)) (found refl) h
own_knows sizes s i v word g new LoadFinalState e calm found h =
    goes_on_knowing s i v _ g new (met_same_announcement sizes v word LoadFinalState refl (rw e refl)) (found refl) h

-- the facts of all but the moving process
pub each_ledger : (Fact : ℕ → Ledger → Type 0) (i o : ℕ) (g : Ledger) (ledgers : Ledgers) → (o ≡ i → Fact o g)
    → (o ≢ i → Fact o (ledgers o)) → Fact o (with_ledger i g ledgers o)
each_ledger Fact i o g ledgers here elsewhere = elim (cases_eq o i) [
  | inl e ↦ let test : (o == i) ≡ true = grind (arith, nat_tests) in rw test (here e)
  | inr ne ↦ let test : (o == i) ≡ false = grind (arith, nat_tests) in rw test (elsewhere ne)
]
