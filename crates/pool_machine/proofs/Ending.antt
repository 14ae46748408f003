-- a call ends after its transfer steps and its own one
use Rattle.std.proofs.Common.{◌≡◌, ◌≢◌, ℕ, zero, suc, ◌+◌, ◌<◌, ◌≤◌, true, refl, arith}
use Rattle.std.specs.Prelude.{Some}
use Rattle.std.proofs.lemmas.Bool.Decides.{nat_tests}
use Rattle.word_layout.specs.Sizes.{Sizes}
use Rattle.pool_machine.specs.declared.call.Call.{Call}
use Rattle.pool_machine.specs.declared.call.Call.TheVariants.{Allocate, Free, Read, Write, Search}
use Rattle.pool_machine.specs.declared.call.CallStage.{CallStage}
use Rattle.pool_machine.specs.declared.call.CallStage.TheVariants.{Between, Choosing, Moving, Own}
use Rattle.transfer_machine.specs.declared.stage.NextStep.{NextStep}
use Rattle.pool_machine.specs.declared.view.ProcessView.{ProcessView}
use Rattle.pool_machine.specs.Beginning.{before_call, first_stage, call_begun}
use Rattle.pool_machine.specs.Steps.{after_move, is_paced, call_met_at}
use Rattle.pool_machine.specs.Laws.{CallSteps, most_moves}

-- after k steps of a call that makes at most `most` transfer steps: where it stands, and how many transfer steps it made
record Counts (quantum most k : ℕ) (stage : CallStage) (steps : ℕ) : Type 0 where
  all : stage ≡ Moving → most ≡ quantum
  made : stage ≡ Moving → k ≤ steps
  few : stage ≡ Moving → steps + 1 ≤ quantum
  own : stage ≡ Own → k ≤ most
  chosen : stage ≢ Choosing

begins_at : (quantum : ℕ) (stage : CallStage) → 1 ≤ quantum → stage ≢ Choosing → Counts quantum quantum 0 stage 0
begins_at quantum stage some ne =
    record { all = λ e. refl; made = λ e. omega arith; few = λ e. omega arith; own = λ e. omega arith; chosen = ne }

begins_own : (quantum : ℕ) → Counts quantum 0 0 Own 0
begins_own quantum = record { all = λ e. cc; made = λ e. cc; few = λ e. cc; own = λ e. omega arith; chosen = λ e. cc }

first_is_chosen : (v : ProcessView) → first_stage v ≢ Choosing
first_is_chosen v = λ e. grind arith

begins : (sizes : Sizes) (call : Call) (v : ProcessView) → 1 ≤ sizes.quantum → is_paced (Some call) ≡ true
    → Counts sizes.quantum (most_moves sizes call) 0 (call_begun call v).calls.stage (call_begun call v).calls.steps
begins sizes Allocate v some paced = begins_at sizes.quantum (first_stage (before_call v)) some (first_is_chosen (before_call v))
begins sizes (Free block) v some paced = begins_at sizes.quantum (first_stage (before_call v)) some (first_is_chosen (before_call v))
begins sizes (Read block index) v some paced = begins_own sizes.quantum
begins sizes (Write block index value) v some paced = begins_own sizes.quantum
begins sizes Search v some paced = cc

moves : (quantum most k steps : ℕ) (next : NextStep) → Counts quantum most k Moving steps
    → Counts quantum most (k + 1) (after_move quantum (steps + 1) next) (steps + 1)
moves quantum most k steps next h = moves_of quantum most k steps next (h.all refl) (h.made refl) (h.few refl)
  where
    moves_of : (quantum most k steps : ℕ) (next : NextStep) → most ≡ quantum → k ≤ steps → steps + 1 ≤ quantum
        → Counts quantum most (k + 1) (after_move quantum (steps + 1) next) (steps + 1)
    moves_of quantum most k steps next e m f = grind (arith, nat_tests)

goes_on : (sizes : Sizes) (most k : ℕ) (v : ProcessView) (word : ℕ) (s : CallStage) → v.calls.stage ≡ s → s ≢ Between
    → is_paced v.calls.call ≡ true → Counts sizes.quantum most k s v.calls.steps
    → Counts sizes.quantum most (k + 1) (call_met_at sizes v word s).calls.stage (call_met_at sizes v word s).calls.steps
goes_on sizes most k v word Between e ne paced h = absurd (ne refl)
goes_on sizes most k v word Choosing e ne paced h = absurd (h.chosen refl)
goes_on sizes most k v word Moving e ne paced h =
    rw paced (moves sizes.quantum most k v.calls.steps (call_met_at sizes v word Moving).transfer.next h)
goes_on sizes most k v word Own e ne paced h = record { all = λ w. cc; made = λ w. cc; few = λ w. cc; own = λ w. cc; chosen = λ w. cc }

-- a call that makes at most a quantum of transfer steps stays one at each of its steps
paced_at : (sizes : Sizes) (v : ProcessView) (word : ℕ) (s : CallStage) → is_paced v.calls.call ≡ true
    → is_paced (call_met_at sizes v word s).calls.call ≡ true
paced_at sizes v word Between paced = paced
paced_at sizes v word Choosing paced = paced
paced_at sizes v word Moving paced = paced
paced_at sizes v word Own paced = refl

begun_paced : (call : Call) (v : ProcessView) → is_paced (Some call) ≡ true → is_paced (call_begun call v).calls.call ≡ true
begun_paced Allocate v paced = refl
begun_paced (Free block) v paced = refl
begun_paced (Read block index) v paced = refl
begun_paced (Write block index value) v paced = refl
begun_paced Search v paced = cc

stays_paced : (sizes : Sizes) (call : Call) (n : ℕ) (views : ℕ → ProcessView) (words : ℕ → ℕ) (k : ℕ) → is_paced (Some call) ≡ true
    → CallSteps sizes call n views words → k ≤ n
    → is_paced (views k).calls.call ≡ true
stays_paced sizes call n views words zero paced steps le = rw steps.begins (begun_paced call steps.before paced)
stays_paced sizes call n views words (suc k) paced steps le =
    let lt : k < n = omega arith in
    let here = stays_paced sizes call n views words k paced steps (omega arith) in
    rw (next k) (rw (steps.each k lt) (paced_at sizes (views k) (words k) (views k).calls.stage here))
  where
    next : (k : ℕ) → suc k ≡ k + 1
    next k = omega arith

reaches : (sizes : Sizes) (call : Call) (n : ℕ) (views : ℕ → ProcessView) (words : ℕ → ℕ) (k : ℕ) → 1 ≤ sizes.quantum
    → is_paced (Some call) ≡ true → CallSteps sizes call n views words → k ≤ n
    → Counts sizes.quantum (most_moves sizes call) k (views k).calls.stage (views k).calls.steps
reaches sizes call n views words zero some paced steps le = rw steps.begins (begins sizes call steps.before some paced)
reaches sizes call n views words (suc k) some paced steps le =
    let lt : k < n = omega arith in
    let here = reaches sizes call n views words k some paced steps (omega arith) in
    let next = goes_on sizes (most_moves sizes call) k (views k) (words k) (views k).calls.stage refl (steps.inside k lt)
    (stays_paced sizes call n views words k paced steps (omega arith)) here in
    rw (suc_is_more k) (rw (steps.each k lt) next)
  where
    suc_is_more : (k : ℕ) → suc k ≡ k + 1
    suc_is_more k = omega arith

last : (quantum most k steps : ℕ) (s : CallStage) → s ≢ Between → Counts quantum most k s steps → suc k ≤ most + 1
last quantum most k steps Between ne h = absurd (ne refl)
last quantum most k steps Choosing ne h = absurd (h.chosen refl)
last quantum most k steps Moving ne h = let e = h.all refl in let m = h.made refl in let f = h.few refl in omega arith
last quantum most k steps Own ne h = let o = h.own refl in omega arith

-- a call but a search has made at most its transfer steps and its own one
pub ends : (sizes : Sizes) (call : Call) (n : ℕ) (views : ℕ → ProcessView) (words : ℕ → ℕ) → 1 ≤ sizes.quantum → is_paced (Some call) ≡ true
    → CallSteps sizes call n views words → n ≤ most_moves sizes call + 1
ends sizes call zero views words some paced steps = omega arith
ends sizes call (suc k) views words some paced steps =
    let lt : k < suc k = omega arith in
    last sizes.quantum (most_moves sizes call) k (views k).calls.steps (views k).calls.stage (steps.inside k lt)
    (reaches sizes call (suc k) views words k some paced steps (omega arith))
