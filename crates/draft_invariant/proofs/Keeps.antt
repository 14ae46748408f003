-- the opening meets the part, and beginnings and steps keep it
use Rattle.std.proofs.Common.{◌≡◌, ℕ, ◌+◌, ◌<◌, ◌==◌, Bool, false, refl, sym, subst, inl, inr, arith, get_or}
use Rattle.std.specs.Prelude.{replicate}
use Rattle.std.proofs.lemmas.Bool.{cases_eq, cases_lt}
use Rattle.std.proofs.lemmas.List.{length-replicate, get_or-replicate, get_or_past}
use Rattle.word_layout.specs.Sizes.{Sizes, IsShape, blocks}
use Rattle.word_layout.specs.Names.{InRange}
use Rattle.word_layout.specs.declared.announced.Wish.{Wish}
use Rattle.word_layout.specs.declared.name.WordName.{WordName}
use Rattle.word_layout.specs.declared.name.WordName.TheVariants.{Announcement}
use Rattle.transfer_machine.specs.Machine.{action_of, met_of, met_at, begun, installed, try_ended}
use Rattle.transfer_machine.specs.Opening.{opening_word, opening_transfer}
use Rattle.transfer_machine.specs.Drafted.{DraftsLoaded}
use Rattle.transfer_machine.specs.Words.{name_of}
use Rattle.transfer_machine.specs.declared.transfer.TransferView.{TransferView}
use Rattle.transfer_machine.specs.declared.stage.NextStep.{NextStep}
use Rattle.transfer_machine.specs.declared.stage.NextStep.TheVariants.{Try}
use Rattle.transfer_machine.specs.declared.stage.TryStep.TheVariants.{ExchangeState}
use Rattle.transfer_invariant.specs.Memory.{Words, Views, States, Acted, Moved}
use Rattle.transfer_invariant.specs.Progress.{has_record}
use Rattle.transfer_invariant.specs.Installing.{states_after}
use Rattle.transfer_invariant.specs.Invariant.{Invariant}
use Rattle.draft_invariant.specs.Heads.{HeadsAreBlocks}
use Rattle.draft_invariant.specs.Pops.{PopsHold}
use Rattle.draft_invariant.specs.Holding.{ViewDrafts, DraftsHold, DraftPremises}
use Rattle.draft_invariant.proofs.Lists.{either, not_both}
use Rattle.draft_invariant.proofs.Wishes.{some_block, value_of_zero, announced_block}
use Rattle.transfer_invariant.proofs.Loaded.{record_has, ended_has_none}
use Rattle.draft_invariant.proofs.Views.{leaves}
use Rattle.draft_invariant.proofs.Drafts.{drafts_met}
use Rattle.draft_invariant.proofs.KeptDrafts.{loaded_met}
use Rattle.draft_invariant.proofs.Slots.{outside, pops_met}
use Rattle.draft_invariant.proofs.Steps.{view_meets, view_pops, view_changes}
use Rattle.draft_invariant.proofs.Acts.{announcements_kept, pops_kept}

-- a fact of all views, once one of them moved
pub moved_each : (P : TransferView → Type 0) (processes : ℕ) (views after : Views) (i : ℕ) (x : TransferView)
    → ((o : ℕ) → o < processes → P (views o))
    → Moved i x views after
    → P x → (o : ℕ) → o < processes → P (after o)
moved_each P processes views after i x h moved here o lo =
    elim (cases_eq o i) [ inl e ↦ subst P (sym (rw e moved.here)) here | inr ne ↦ subst P (sym (moved.elsewhere o ne)) (h o lo) ]

-- a view that made its exchange of the state, or failed, has left its try
exchanged_none : (sizes : Sizes) (v : TransferView) (word : ℕ) (second : Bool) (s : NextStep) → s ≡ Try second ExchangeState
    → has_record (met_at sizes v word s).next ≡ false
exchanged_none sizes v word second s e =
    rw e (either TransferView (λ x. has_record x.next ≡ false) (word == v.loaded.state) (installed v) (try_ended second v) refl
    (ended_has_none second))

-- a step
pub steps_keep : (sizes : Sizes) (m n : Words) (views after : Views) (states : States) (i : ℕ) → IsShape sizes → i < sizes.processes
    → Invariant sizes m views states
    → DraftsHold sizes m views states → DraftPremises sizes m states (views i) → Acted sizes (action_of sizes (views i)) m n
    → Moved i (met_of sizes (views i) (m (name_of (action_of sizes (views i))))) views after
    → DraftsHold sizes n after (states_after m (views i) states)
steps_keep sizes m n views after states i shape li inv drafts given a moved =
    let v = views i in
    let word = m (name_of (action_of sizes v)) in
    let x = met_of sizes v word in
    let view = drafts.each i li in
    let own = inv.records.own i li in
    let few = shape.few_processes in
    record {
      announcements =
          announcements_kept sizes v m n v.next refl a (λ e. announced_block sizes (v.age + 1) v.wish shape.few_blocks (given.fits_wish e))
          (λ second process e. rw e at view.among) drafts.announcements;
      each = moved_each (ViewDrafts sizes) sizes.processes views after i x drafts.each moved
          (drafts_met sizes v word v.next refl (view_meets sizes m views states i shape li inv drafts given) view);
      loaded = moved_each (DraftsLoaded sizes) sizes.processes views after i x drafts.loaded moved
          (loaded_met sizes v word v.next refl view.room (view_changes sizes m views states i shape li inv drafts given)
          (drafts.loaded i li));
      pops = moved_each (PopsHold sizes.processes n (states_after m v states)) sizes.processes views after i x
          (λ o lo. pops_kept sizes m n states i v (views o) v.next few li own a
          (λ second e has. (inv.records.loaded o lo).past (record_has (views o).next has)) (drafts.pops o lo)) moved
          (pops_kept sizes m n states i v x v.next few li own a
          (λ second e has. absurd (not_both (has_record x.next) (exchanged_none sizes v word second v.next e) has))
          (pops_met sizes m states v word v.next refl few view.room view.among (drafts.loaded i li)
          (view_pops sizes m views states i shape li inv drafts given) (drafts.pops i li)));
    }

-- a transfer that begins
pub beginnings_keep : (sizes : Sizes) (m : Words) (views after : Views) (states : States) (i : ℕ) (wish : Wish) → i < sizes.processes
    → DraftsHold sizes m views states
    → Moved i (begun wish (views i)) views after → DraftsHold sizes m after states
beginnings_keep sizes m views after states i wish li drafts moved =
    let x = begun wish (views i) in
    let view = drafts.each i li in
    record {
      announcements = drafts.announcements;
      each = moved_each (ViewDrafts sizes) sizes.processes views after i x drafts.each moved
          (leaves sizes (views i) x (omega arith) view (record {
            record_words = view.room.record_words;
            announcements = refl;
            popped = refl;
            heads = refl;
            replies = refl;
          }) refl);
      loaded = moved_each (DraftsLoaded sizes) sizes.processes views after i x drafts.loaded moved tt;
      pops =
          moved_each (PopsHold sizes.processes m states) sizes.processes views after i x drafts.pops moved
          (outside sizes.processes m states x refl);
    }

-- the opening
pub zero_at : (room k : ℕ) → get_or (replicate {A = ℕ} room 0) k 0 ≡ 0
zero_at room k =
    elim (cases_lt k room) [
      | inl lt ↦ get_or-replicate room k 0 0 lt
      | inr ge ↦
          get_or_past (replicate {A = ℕ} room 0) k 0 (omega (arith, length-replicate {A = ℕ} room 0))
    ]

opening_heads : (sizes : Sizes) (i : ℕ) → 0 < blocks sizes → HeadsAreBlocks sizes (opening_transfer i)
opening_heads sizes i some = record {
  announcements = λ k. rw (zero_at 32 k, value_of_zero) (omega arith);
  popped = λ k. rw (zero_at 32 k, value_of_zero) some;
  heads = λ k. rw (zero_at 32 k) some;
  replies = λ k. rw (zero_at 32 k) (omega arith);
}

opening_view : (sizes : Sizes) (i : ℕ) → 0 < sizes.processes → 0 < blocks sizes → ViewDrafts sizes (opening_transfer i)
opening_view sizes i some block = record {
  room =
      record {
        record_words = length-replicate {A = ℕ} 66 0;
        announcements = length-replicate {A = ℕ} 32 0;
        popped = length-replicate {A = ℕ} 32 0;
        heads = length-replicate {A = ℕ} 32 0;
        replies = length-replicate {A = ℕ} 32 0;
      };
  fits = λ h. absurd (not_both false refl h);
  replies = record { kept = λ o lt. absurd (omega arith); parity = λ o lt. absurd (omega arith) };
  heads = opening_heads sizes i block;
  among = some;
}

-- the opening meets the part draft of a try
pub opening_holds : (sizes : Sizes) (words : Words) (views : Views) (states : States) → IsShape sizes
    → ((name : WordName) → InRange sizes name → words name ≡ opening_word sizes name)
    → ((i : ℕ) → i < sizes.processes → views i ≡ opening_transfer i)
    → DraftsHold sizes words views states
opening_holds sizes words views states shape opened seats = record {
  announcements = λ process lt. rw (opened (Announcement process) lt, value_of_zero) (omega arith);
  each = λ i li. rw (seats i li) (opening_view sizes i (omega arith) (some_block sizes shape));
  loaded = λ i li. rw (seats i li) tt;
  pops = λ i li. rw (seats i li) (outside sizes.processes words states (opening_transfer i) refl);
}
