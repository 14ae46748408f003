-- the data words under every step: those of blocks that its process doesn't hold stay, and what it knows of its own holds
use Rattle.std.proofs.Common.{◌≡◌, ◌≢◌, ℕ, ◌<◌, Bool, true, false, Option, None, Some}
use Rattle.std.proofs.Common.{List, [], ◌∷◌, ◌++◌, refl, sym, ap, ◌∙◌, subst, arith}
use Rattle.std.specs.Prelude.{if◌then◌else◌, Contains}
use Rattle.std.proofs.lemmas.List.{append-nil}
use Rattle.word_layout.specs.Sizes.{Sizes, IsShape, blocks}
use Rattle.word_layout.specs.Names.{word_at}
use Rattle.word_layout.specs.declared.name.WordName.TheVariants.{Data}
use Rattle.pool_model.specs.declared.entry.Entry.{Entry}
use Rattle.pool_model.specs.declared.entry.Entry.TheVariants.{Got, Back, Dry}
use Rattle.pool_model.specs.History.{own, grip}
use Rattle.pool_model.proofs.Histories.{own_other}
use Rattle.transfer_machine.specs.Machine.{action_of}
use Rattle.transfer_machine.specs.Stages.{kind_of}
use Rattle.transfer_machine.specs.Words.{name_of}
use Rattle.transfer_machine.specs.declared.kind.Kind.{Kind}
use Rattle.pool_machine.specs.declared.call.Call.{Call}
use Rattle.pool_machine.specs.declared.call.Call.TheVariants.{Allocate, Free, Read, Write, Search}
use Rattle.pool_machine.specs.declared.call.CallStage.{CallStage}
use Rattle.pool_machine.specs.declared.call.CallStage.TheVariants.{Between, Choosing, Moving, Own}
use Rattle.pool_machine.specs.declared.call.Way.TheVariants.{Alone}
use Rattle.pool_machine.specs.declared.event.Happened.TheVariants.{Step}
use Rattle.pool_machine.specs.declared.view.PoolView.{PoolView}
use Rattle.pool_machine.specs.declared.view.ProcessView.{ProcessView}
use Rattle.pool_machine.specs.OwnSteps.{next_block, allocate_answer, own_action, own_answer_for, own_kind_for}
use Rattle.pool_machine.specs.Steps.{call_action, call_action_at, call_answer, call_answer_at, happened}
use Rattle.transfer_invariant.specs.Memory.{Words, Acted, state_tag}
use Rattle.batch_invariant.specs.Batches.{ProcessViews}
use Rattle.chain_invariant.specs.Calls.{held_by_call}
use Rattle.chain_invariant.proofs.Gives.{held_are_apart}
use Rattle.history_invariant.proofs.Replacing.{replaced_with}
use Rattle.interleaving_core.specs.DataWords.{known_by_call, changed_by_call, known_at_stage}
use Rattle.interleaving_core.specs.Invariant.{Known, Ghosts, held_in, DataHolds, Holds}
use Rattle.interleaving_core.specs.Runs.{entries_of}
use Rattle.interleaving_core.specs.StepLaws.{word_met, words_after, history_after, StepIsDue, StepsLeaveData}
use Rattle.interleaving_core.specs.StepLaws.{StepsTellData, StepsKeepData, StepsEnterOwn, HoldersAreApart}
use Rattle.interleaving_core.specs.Steps.{is_alone, is_at_step, next_action}
use Rattle.interleaving_core.proofs.Holds.{in_its_call, step_allowed}
use Rattle.interleaving_core.proofs.OwnData.{HeldAreLow, data_stays, others_words_stay, own_data, own_data_unread}
use Rattle.interleaving_core.proofs.OwnLedgers.{due_of, own_history}
use Rattle.interleaving_core.proofs.OwnParts.{ledger_by_call, grip_by_call}
use Rattle.interleaving_core.proofs.Standing.{isnt_alone, numbered}
use Rattle.interleaving_core.proofs.Tables.{table_acted, next_in_range}
use Rattle.interleaving_core.proofs.TransferSteps as transfer_steps

only_member : (block b : ℕ) → Contains (block ∷ []) b → b ≡ block
only_member block b has = grind arith

between_is_no_call : is_at_step Between ≡ true → ⊥
between_is_no_call e = grind arith

-- the entries of a step are its process's
recorded_elsewhere : (history : List Entry) (by other : ℕ) (block : Option ℕ) (kind : Kind) → other ≢ by
    → own (history ++ entries_of (happened kind (allocate_answer by block))) other ≡ own history other
recorded_elsewhere history by other None kind ne = own_other history (Dry by) other (λ e. ne (sym e))
recorded_elsewhere history by other (Some block) kind ne = own_other history (Got by block) other (λ e. ne (sym e))

nothing_entered : (history : List Entry) (other : ℕ) → own (history ++ []) other ≡ own history other
nothing_entered history other = ap (λ entries. own entries other) (append-nil history)

own_step_elsewhere : (history : List Entry) (by other word : ℕ) (pool : PoolView) (call : Option Call) → other ≢ by
    → own (history ++ entries_of (happened (own_kind_for pool call) (own_answer_for by pool word call))) other ≡ own history other
own_step_elsewhere history by other word pool None ne = nothing_entered history other
own_step_elsewhere history by other word pool (Some Allocate) ne = recorded_elsewhere history by other (next_block pool)
    (own_kind_for pool (Some Allocate)) ne
own_step_elsewhere history by other word pool (Some (Free block)) ne = own_other history (Back by block) other (λ e. ne (sym e))
own_step_elsewhere history by other word pool (Some (Read block index)) ne = nothing_entered history other
own_step_elsewhere history by other word pool (Some (Write block index value)) ne = nothing_entered history other
own_step_elsewhere history by other word pool (Some Search) ne = recorded_elsewhere history by other (next_block pool)
    (own_kind_for pool (Some Search)) ne

call_elsewhere : (history : List Entry) (v : ProcessView) (other word : ℕ) (stage : CallStage) → other ≢ v.transfer.number
    → own (history ++ entries_of (call_answer_at v word stage)) other ≡ own history other
call_elsewhere history v other word Between ne = nothing_entered history other
call_elsewhere history v other word Choosing ne = nothing_entered history other
call_elsewhere history v other word Moving ne = nothing_entered history other
call_elsewhere history v other word Own ne = own_step_elsewhere history v.transfer.number other word v.pool v.calls.call ne

step_elsewhere : (history : List Entry) (v : ProcessView) (other word : ℕ) (t : Bool) → other ≢ v.transfer.number
    → own (history ++ entries_of (if t then Step (kind_of v.transfer.next) else call_answer v word)) other ≡ own history other
step_elsewhere history v other word true ne = nothing_entered history other
step_elsewhere history v other word false ne = call_elsewhere history v other word v.calls.stage ne

-- the own step of a call makes this of what its process knows
abbrev OwnTells : Sizes → Words → Words → ProcessView → List ℕ → Known → Type 0
OwnTells sizes words new v held told = Acted sizes (own_action v) words new
    → DataHolds sizes new (held_by_call v.pool v.calls.call held) told

module _ (sizes : Sizes) (words new : Words) (views : ProcessViews) (history : List Entry) (ghosts : Ghosts) (i : ℕ)
    (shape : IsShape sizes) (li : i < sizes.processes) (h : Holds sizes words views history ghosts) where
  -- what the history says that a process holds
  entries_of_process : (o : ℕ) → o < sizes.processes → own history o ≡ (ghosts.ledgers o).entries
  entries_of_process o lo = (h.entries.each o lo).sees.own_entries

  held_of : (o block : ℕ) → o < sizes.processes → Contains (grip (own history o)) block → Contains (held_in ghosts.ledgers o) block
  held_of o block lo has = subst (λ entries. Contains (grip entries) block) (entries_of_process o lo) has

  of_held : (o block : ℕ) → o < sizes.processes → Contains (held_in ghosts.ledgers o) block → Contains (grip (own history o)) block
  of_held o block lo has = subst (λ entries. Contains (grip entries) block) (sym (entries_of_process o lo)) has

  pub holders_apart : (block : ℕ) → Contains (grip (own history i)) block
      → (block < blocks sizes) × ((other : ℕ) → other < sizes.processes → other ≢ i → ¬ Contains (grip (own history other)) block)
  holders_apart block has =
      let (low, apart) = held_are_apart sizes words (ghosts.states (state_tag words)) views (held_in ghosts.ledgers) i block li h.chains
      (held_of i block li has) in
      (low, λ other lo ne theirs. apart other lo ne (held_of other block lo theirs))

  mine_low : HeldAreLow sizes (held_in ghosts.ledgers i)
  mine_low b has = (holders_apart b (of_held i b li has)).0

  -- a block that the process doesn't hold
  call_leaves_data : (stage : CallStage) (block index : ℕ) → is_at_step stage ≡ true → block < blocks sizes → index < sizes.words
      → ¬ Contains (held_in ghosts.ledgers i) block
      → Acted sizes (call_action_at sizes (views i) stage) words new → new (Data block index) ≡ words (Data block index)
  call_leaves_data Between block index inside lb lk isnt a = absurd (between_is_no_call inside)
  call_leaves_data Choosing block index inside lb lk isnt a = absurd (between_is_no_call inside)
  call_leaves_data Moving block index inside lb lk isnt a = transfer_steps.data_stays sizes (views i).transfer words new block index a lb lk
  call_leaves_data Own block index inside lb lk isnt a =
      others_words_stay sizes words new (views i).pool (held_in ghosts.ledgers i) (block ∷ []) (views i).calls.call
      (λ b has. rw (only_member block b has) lb) (λ b has one. isnt
      (subst (Contains (held_in ghosts.ledgers i)) (only_member block b one) has)) (h.names i li) a block index (grind arith) lk

  way_leaves_data : (t : Bool) (block index : ℕ) → (t ≡ false → is_at_step (views i).calls.stage ≡ true) → block < blocks sizes
      → index < sizes.words → ¬ Contains (grip (own history i)) block
      → Acted sizes (if t then action_of sizes (views i).transfer else call_action sizes (views i)) words new
      → new (Data block index) ≡ words (Data block index)
  way_leaves_data true block index inside lb lk isnt a = transfer_steps.data_stays sizes (views i).transfer words new block index a lb lk
  way_leaves_data false block index inside lb lk isnt a = call_leaves_data (views i).calls.stage block index (inside refl) lb lk
      (λ has. isnt (of_held i block li has)) a

  -- the words that the process knows, where its step is one of a transfer
  transfer_tells : (known : Known) → Acted sizes (action_of sizes (views i).transfer) words new
      → DataHolds sizes words (grip (own history i)) known → DataHolds sizes new (grip (own (history ++ []) i)) known
  transfer_tells known a d =
      rw (append-nil history)
      (data_stays sizes words new (grip (own history i)) (grip (own history i)) known d
      (λ b k has lt. transfer_steps.data_stays sizes (views i).transfer words new b k a (holders_apart b has).0 lt) (λ b has. has))

  -- and where it is the own one of a call
  own_grip : (word : ℕ) → (views i).calls.way ≢ Alone → (views i).calls.stage ≡ Own
      → grip (own (history ++ entries_of (call_answer_at (views i) word Own)) i) ≡ held_by_call (views i).pool (views i).calls.call
      (held_in ghosts.ledgers i)
  own_grip word ne own_stage =
      let v = views i in
      let due = due_of sizes words views history ghosts i shape li h ne own_stage in
      let after = own_history sizes words views history ghosts i due v.transfer.number word
      (numbered sizes words views history ghosts i li h) v.calls.call refl in
      let ledger = ledger_by_call history i v.pool v.calls.call (ghosts.ledgers i) in
      ap grip (after.each i li).sees.own_entries ∙ ap (λ g. grip g.entries) (replaced_with i ledger ghosts.ledgers).here
      ∙ grip_by_call history i v.pool v.calls.call (ghosts.ledgers i)

  call_tells : (stage : CallStage) (known told : Known) → (views i).calls.way ≢ Alone → (views i).calls.stage ≡ stage
      → is_at_step stage ≡ true → Acted sizes (call_action_at sizes (views i) stage) words new
      → DataHolds sizes words (grip (own history i)) known → OwnTells sizes words new (views i) (held_in ghosts.ledgers i) told
      → (word : ℕ) → DataHolds sizes new (grip
      (own (history ++ entries_of (call_answer_at (views i) word stage)) i)) (known_at_stage told stage known)
  call_tells Between known told ne e inside a d tells word = absurd (between_is_no_call inside)
  call_tells Choosing known told ne e inside a d tells word = absurd (between_is_no_call inside)
  call_tells Moving known told ne e inside a d tells word = transfer_tells known a d
  call_tells Own known told ne e inside a d tells word = rw (own_grip word ne e) (tells a)

  way_tells : (t : Bool) (known told : Known) → is_alone (views i).calls.way ≡ t → (t ≡ false → is_at_step (views i).calls.stage ≡ true)
      → Acted sizes (if t then action_of sizes (views i).transfer else call_action sizes (views i)) words new
      → DataHolds sizes words (grip (own history i)) known → OwnTells sizes words new (views i) (held_in ghosts.ledgers i) told
      → (word : ℕ) → DataHolds sizes new
      (grip (own (history ++ entries_of (if t then Step (kind_of (views i).transfer.next) else call_answer (views i) word)) i))
      (if t then known else known_at_stage told (views i).calls.stage known)
  way_tells true known told alone inside a d tells word = transfer_tells known a d
  way_tells false known told alone inside a d tells word =
      call_tells (views i).calls.stage known told (isnt_alone (views i).calls.way alone) refl (inside refl) a d tells word

  -- what its own step makes of what it knows
  known_of_held : (known : Known) → DataHolds sizes words (grip (own history i)) known
      → DataHolds sizes words (held_in ghosts.ledgers i) known
  known_of_held known d = subst (λ entries. DataHolds sizes words (grip entries) known) (entries_of_process i li) d

  own_tells : (known : Known) → DataHolds sizes words (grip (own history i)) known
      → OwnTells sizes words new (views i) (held_in ghosts.ledgers i)
      (known_by_call (words (name_of (own_action (views i)))) (views i).calls.call known)
  own_tells known d a =
      let v = views i in
      own_data sizes words new v.pool (held_in ghosts.ledgers i) known v.calls.call mine_low (h.names i li) a (known_of_held known d)

  own_changes : (known : Known) → DataHolds sizes words (grip (own history i)) known
      → OwnTells sizes words new (views i) (held_in ghosts.ledgers i) (changed_by_call (views i).calls.call known)
  own_changes known d a =
      let v = views i in
      own_data_unread sizes words new v.pool (held_in ghosts.ledgers i) known v.calls.call mine_low (h.names i li) a (known_of_held known d)

-- the next step of a process acts on the words by their names
pub due_acts : (sizes : Sizes) (words : List ℕ) (views : ProcessViews) (history : List Entry) (i : ℕ)
    → StepIsDue sizes words views history i
    → Acted sizes (next_action sizes (views i)) (word_at sizes words) (word_at sizes (words_after sizes words (views i)))
due_acts sizes words views history i due =
    let allowed = step_allowed sizes (word_at sizes words) views history i due.table.shape due.table.low due.table.meets due.busy in
    table_acted sizes words (next_action sizes (views i)) due.table.whole
    (next_in_range sizes (word_at sizes words) (views i) (is_alone (views i).calls.way) refl allowed)

-- a step leaves the data words of blocks that its process doesn't hold
pub steps_leave_data : StepsLeaveData
steps_leave_data sizes words views history i due block index lb lk isnt =
    let (ghosts, h) = due.table.meets in
    let new = word_at sizes (words_after sizes words (views i)) in
    way_leaves_data sizes (word_at sizes words) new views history ghosts i due.table.shape due.table.low h
    (is_alone (views i).calls.way) block index (in_its_call (views i) (is_alone (views i).calls.way) refl due.busy) lb lk isnt
    (due_acts sizes words views history i due)

-- what the word that is met says: that of the own step, where the step is one
word_at_stage : (sizes : Sizes) (words : Words) (v : ProcessView) (stage : CallStage) (known : Known)
    → known_at_stage (known_by_call (words (name_of (own_action v))) v.calls.call known) stage known
    ≡ known_at_stage (known_by_call (words (name_of (call_action_at sizes v stage))) v.calls.call known) stage known
word_at_stage sizes words v Between known = refl
word_at_stage sizes words v Choosing known = refl
word_at_stage sizes words v Moving known = refl
word_at_stage sizes words v Own known = refl

told_by_way : (sizes : Sizes) (words : Words) (v : ProcessView) (t : Bool) (known : Known)
    → (if t then known else known_at_stage (known_by_call (words (name_of (own_action v))) v.calls.call known) v.calls.stage known)
    ≡ (if t then known else known_at_stage
    (known_by_call (words
    (name_of (if t then action_of sizes v.transfer else call_action sizes v))) v.calls.call known) v.calls.stage known)
told_by_way sizes words v true known = refl
told_by_way sizes words v false known = word_at_stage sizes words v v.calls.stage known

module _ (sizes : Sizes) (words : List ℕ) (views : ProcessViews) (history : List Entry) (i : ℕ)
    (due : StepIsDue sizes words views history i)
    (known : Known) (d : DataHolds sizes (word_at sizes words) (grip (own history i)) known) where
  -- what is known after the step, where the own one makes this of it
  due_tells : (told : Known)
      → ((ghosts : Ghosts) → Holds sizes (word_at sizes words) views history ghosts
      → OwnTells sizes (word_at sizes words) (word_at sizes (words_after sizes words (views i))) (views i) (held_in ghosts.ledgers i) told)
      → DataHolds sizes (word_at sizes (words_after sizes words (views i))) (grip (own (history_after sizes words (views i) history) i))
      (if is_alone (views i).calls.way then known else known_at_stage told (views i).calls.stage known)
  due_tells told tells =
      let (ghosts, h) = due.table.meets in
      let alone = is_alone (views i).calls.way in
      way_tells sizes (word_at sizes words) (word_at sizes (words_after sizes words (views i))) views history ghosts i due.table.shape
      due.table.low h alone known told refl (in_its_call (views i) alone refl due.busy) (due_acts sizes words views history i due) d
      (tells ghosts h) (word_met sizes words (views i))

-- what a process knows of its data words still holds, with what the step told it
pub steps_tell_data : StepsTellData
steps_tell_data sizes words views history i due known d =
    let v = views i in
    let named = word_at sizes words in
    let new = word_at sizes (words_after sizes words v) in
    let told = known_by_call (named (name_of (own_action v))) v.calls.call known in
    let all = due_tells sizes words views history i due known d told
    (λ ghosts h. own_tells sizes named new views history ghosts i due.table.shape due.table.low h known d) in
    subst (DataHolds sizes new (grip (own (history_after sizes words v history) i)))
    (told_by_way sizes named v (is_alone v.calls.way) known) all

-- also where the process notes no word that it read
pub steps_keep_data : StepsKeepData
steps_keep_data sizes words views history i due known d =
    let new = word_at sizes (words_after sizes words (views i)) in
    due_tells sizes words views history i due known d (changed_by_call (views i).calls.call known)
    (λ ghosts h. own_changes sizes (word_at sizes words) new views history ghosts i due.table.shape due.table.low h known d)

-- a step makes no entry of another process
pub steps_enter_own : StepsEnterOwn
steps_enter_own sizes words views history i due other ne =
    let (ghosts, h) = due.table.meets in
    let number = numbered sizes (word_at sizes words) views history ghosts i due.table.low h in
    step_elsewhere history (views i) other (word_met sizes words (views i)) (is_alone (views i).calls.way) (λ e. ne (e ∙ number))

-- no block is in the grip of two processes
pub holders_are_apart : HoldersAreApart
holders_are_apart sizes words views history shape (ghosts, h) i block li has =
    holders_apart sizes (word_at sizes words) (word_at sizes words) views history ghosts i shape li h block has
