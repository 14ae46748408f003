-- the steps that change no word, by the stage of the moving view
use Rattle.std.proofs.Common.{◌≡◌, ℕ, ◌+◌, ◌<◌, ◌≤◌, Bool, true, false, refl, arith, set}
use Rattle.word_layout.specs.Sizes.{Sizes}
use Rattle.word_layout.specs.declared.name.WordName.TheVariants.{State, Announcement}
use Rattle.transfer_machine.specs.Loads.{loaded_tag}
use Rattle.transfer_machine.specs.Machine.{after_try, try_ended, met_at, met_in_try}
use Rattle.transfer_machine.specs.declared.transfer.TransferView.{TransferView}
use Rattle.transfer_machine.specs.declared.stage.NextStep.TheVariants.{Try, LoadFinalState}
use Rattle.transfer_machine.specs.declared.stage.TryStep.{TryStep}
use Rattle.transfer_machine.specs.declared.stage.TryStep.TheVariants.{LoadState, LoadAnnouncement}
use Rattle.transfer_invariant.specs.Memory.{Words, Views, States, Moved, state_tag}
use Rattle.transfer_invariant.specs.Progress.{has_loaded_state, in_try, has_announced, heard_announcements}
use Rattle.transfer_invariant.proofs.Installs.{try_announced, try_begun}
use Rattle.transfer_invariant.proofs.Steps.{try_has}
use Rattle.helping_invariant.specs.Parts.{HearsPresent}
use Rattle.helping_invariant.specs.Holds.{HelpingHolds}
use Rattle.helping_invariant.proofs.Own.{Pends, pends_announced, pends_settled}
use Rattle.helping_invariant.proofs.Own.{StaysInTry, stays_tries, tries_ended, tries_loaded, tries_final}
use Rattle.helping_invariant.proofs.Between.{hears_on, hears_none, hears_more, HeardOn, heard_on, heard_loaded}
use Rattle.helping_invariant.proofs.Moves.{LoadedPast, view_moves}

-- a view that stays in its try
stays_pending : (v x : TransferView) → StaysInTry v x → Pends v x
stays_pending v x g = record {
  was = try_announced v.next g.was;
  pends = try_announced x.next g.trying;
  number = g.number;
  age = g.age;
  wish = g.wish;
  room = g.room;
}

-- a process that goes on in its try with the same age and the same first load can be heard as before
pub heard_in_try : (v x : TransferView) → in_try v.next ≡ true → x.age ≡ v.age → x.first_loaded ≡ v.first_loaded → HeardOn v x
heard_in_try v x was ea ef = record {
  age = ea;
  first = ef;
  announced = λ k. try_announced v.next was;
  begun = λ k. try_begun v.next was;
}

view_stays : (sizes : Sizes) (m : Words) (views after : Views) (states : States) (i : ℕ) (x : TransferView) → i < sizes.processes
    → HelpingHolds sizes m views states → LoadedPast sizes m views → Moved i x views after → StaysInTry (views i) x
    → ((o : ℕ) → o < sizes.processes → HearsPresent sizes.processes m states o x (views o)) → HelpingHolds sizes m after states
view_stays sizes m views after states i x li h past moved g from =
    let v = views i in
    view_moves sizes m views after states i x li h past moved (record {
      past = λ k. rw g.loaded (past i li (try_has v.next g.was));
      announced = pends_announced m states i v x (h.announced i li) (stays_pending v x g);
      tries = stays_tries m states i v x (h.tries i li) g;
      settled = pends_settled sizes m states i v x (h.settled i li) (stays_pending v x g);
      from = from;
      into = λ w pw k. heard_on sizes.processes m states i w v x k (heard_in_try v x g.was g.age g.first_loaded);
    })

-- and hears no more
pub view_same : (sizes : Sizes) (m : Words) (views after : Views) (states : States) (i : ℕ) (x : TransferView) → i < sizes.processes
    → HelpingHolds sizes m views states → LoadedPast sizes m views → Moved i x views after → StaysInTry (views i) x
    → heard_announcements sizes.processes x.next ≤ heard_announcements sizes.processes (views i).next
    → x.loaded.announcements ≡ (views i).loaded.announcements → HelpingHolds sizes m after states
view_same sizes m views after states i x li h past moved g le same =
    view_stays sizes m views after states i x li h past moved g (λ o lo. hears_on sizes.processes m states o (views i) x (views o)
    (h.hears i o li lo) g (λ lt. omega arith) (rw same refl))

-- and hears one more
pub view_hears : (sizes : Sizes) (m : Words) (views after : Views) (states : States) (i process : ℕ) (second : Bool) (x : TransferView)
    → sizes.processes ≤ 32 → i < sizes.processes → HelpingHolds sizes m views states → LoadedPast sizes m views → Moved i x views after
    → StaysInTry (views i) x → (views i).next ≡ Try second (LoadAnnouncement process)
    → x.loaded.announcements ≡ set (views i).loaded.announcements process (m (Announcement process))
    → heard_announcements sizes.processes x.next ≤ process + 1 → HelpingHolds sizes m after states
view_hears sizes m views after states i process second x few li h past moved g e ex le =
    view_stays sizes m views after states i x li h past moved g (λ o lo. hears_more sizes.processes m states o process second (views i) x
    (views o) (omega arith) (h.announced i li).room (h.hears i o li lo) g e ex le)

-- a try ends that installed nothing
ended_pends : (second : Bool) → has_announced (after_try second) ≡ true
ended_pends second = grind arith

ended_out : (second : Bool) → in_try (after_try second) ≡ false
ended_out second = grind arith

ended_deaf : (processes : ℕ) (second : Bool) → heard_announcements processes (after_try second) ≡ 0
ended_deaf processes second = grind arith

-- the end of a try that installed nothing keeps the parts of helping, since a later state is there by then
pub view_ends_try : (sizes : Sizes) (m : Words) (views after : Views) (states : States) (i : ℕ) (second : Bool) (step : TryStep)
    → i < sizes.processes → HelpingHolds sizes m views states → LoadedPast sizes m views → (views i).next ≡ Try second step
    → has_loaded_state step ≡ true → (views i).installed ≤ (views i).first_loaded → loaded_tag (views i).loaded < state_tag m
    → Moved i (try_ended second (views i)) views after → HelpingHolds sizes m after states
view_ends_try sizes m views after states i second step li h past e has none later moved =
    let v = views i in
    let x = try_ended second v in
    let was : in_try v.next ≡ true = rw e has in
    let pends : Pends v x = record {
      was = rw e refl;
      pends = ended_pends second;
      number = refl;
      age = refl;
      wish = refl;
      room = refl;
    } in
    view_moves sizes m views after states i x li h past moved (record {
      past = λ k. absurd (grind (arith, k, ended_out second));
      announced = pends_announced m states i v x (h.announced i li) pends;
      tries = tries_ended m states i second step v (h.tries i li) e has none later;
      settled = pends_settled sizes m states i v x (h.settled i li) pends;
      from = λ o lo. hears_none sizes.processes m states o x (views o) (ended_deaf sizes.processes second);
      into = λ w pw k. heard_on sizes.processes m states i w v x k (heard_in_try v x was refl refl);
    })

-- the state is loaded, at the beginning of a try
pub view_loads_state : (sizes : Sizes) (m : Words) (views after : Views) (states : States) (i : ℕ) (second : Bool) → i < sizes.processes
    → HelpingHolds sizes m views states → LoadedPast sizes m views → (views i).next ≡ Try second LoadState
    → Moved i (met_in_try sizes (views i) (m State) second LoadState) views after → HelpingHolds sizes m after states
unfolding state_tag
view_loads_state sizes m views after states i second li h past e moved =
    let v = views i in
    let x = met_in_try sizes v (m State) second LoadState in
    let pends : Pends v x = record { was = rw e refl; pends = refl; number = refl; age = refl; wish = refl; room = refl } in
    view_moves sizes m views after states i x li h past moved (record {
      past = λ k. omega arith;
      announced = pends_announced m states i v x (h.announced i li) pends;
      tries = tries_loaded m states i second v x (h.tries i li) e refl refl refl refl;
      settled = pends_settled sizes m states i v x (h.settled i li) pends;
      from = λ o lo. hears_none sizes.processes m states o x (views o) refl;
      into = λ w pw k. heard_loaded sizes.processes m states i second w v x pw k e refl refl refl;
    })

-- and at the end
pub view_loads_final : (sizes : Sizes) (m : Words) (views after : Views) (states : States) (i : ℕ) → i < sizes.processes
    → HelpingHolds sizes m views states → LoadedPast sizes m views → (views i).next ≡ LoadFinalState
    → Moved i (met_at sizes (views i) (m State) LoadFinalState) views after → HelpingHolds sizes m after states
unfolding state_tag
view_loads_final sizes m views after states i li h past e moved =
    let v = views i in
    let x = met_at sizes v (m State) LoadFinalState in
    let pends : Pends v x = record { was = rw e refl; pends = refl; number = refl; age = refl; wish = refl; room = refl } in
    let on : HeardOn v x = record { age = refl; first = refl; announced = λ a. rw e refl; begun = λ b. rw e refl } in
    view_moves sizes m views after states i x li h past moved (record {
      past = λ k. omega arith;
      announced = pends_announced m states i v x (h.announced i li) pends;
      tries = tries_final m states i v x (h.tries i li) e refl refl refl refl refl;
      settled = pends_settled sizes m states i v x (h.settled i li) pends;
      from = λ o lo. hears_none sizes.processes m states o x (views o) refl;
      into = λ w pw k. heard_on sizes.processes m states i w v x k on;
    })
