-- Calls of one process that lead a plain pool from one state to another.
use Rattle.std.proofs.Common.{◌≡◌, ℕ, ◌<◌, List, [], ◌∷◌, ◌++◌, refl, sym, ap, ◌∙◌, subst, append_assoc, append-nil}
use Rattle.std.specs.List.{Contains}
use Rattle.std.proofs.lemmas.List.Elements.{filter-append}
use Rattle.pool_model.specs.declared.entry.Entry.{Entry}
use Rattle.pool_model.specs.declared.entry.Entry.TheVariants.{Got, Back, Dry}
use Rattle.pool_model.specs.Limits.{Limits}
use Rattle.pool_model.specs.History.{own, held, process_of}
use Rattle.pool_model.specs.Legal.{IsExact, MayFollow, IsDryWhenFull}
use Rattle.pool_model.specs.Plain.{Plain, IsFull, IsLeftBy, Gives, Takes}
use Rattle.pool_model.proofs.Histories.{own_more, exact_more}
use Rattle.pool_model.proofs.PlainSteps.{left_by_got, left_by_dry, left_by_back, full_unheld, got_may_follow, dry_may_follow}
use Rattle.trace_player.specs.Playing.{Leads}

-- without a call a pool is led to itself
pub leads_none : (i : ℕ) (pool : Plain) → Leads i [] pool pool
leads_none i pool = record {
  blocks = refl;
  own_only = refl;
  leaves = λ past left. rw (append-nil past) left;
  exact = λ limits past process same long none left exact. rw (append-nil past) exact;
}

-- one more call, where it may follow what came before and leaves the pool as it is
leads_more : (i : ℕ) (entries : List Entry) (entry : Entry) (old pool new : Plain) → process_of entry ≡ i → new.blocks ≡ pool.blocks
    → ((past : List Entry) → IsLeftBy past pool → IsLeftBy (past ++ entry ∷ []) new)
    → ((limits : Limits) (past : List Entry) → i < limits.processes → limits.blocks ≡ pool.blocks → 0 < limits.batch_length
    → own past i ≡ entries → IsLeftBy past pool
    → MayFollow limits past entry × IsDryWhenFull limits past entry)
    → Leads i entries old pool → Leads i (entries ++ entry ∷ []) old new
leads_more i entries entry old pool new mine same leaves may leads = record {
  blocks = same ∙ leads.blocks;
  own_only = own_more entries entry i mine ∙ ap (λ es. es ++ entry ∷ []) leads.own_only;
  leaves =
      λ past left. subst (λ (h : List Entry). IsLeftBy h new) (append_assoc past entries (entry ∷ []))
      (leaves (past ++ entries) (leads.leaves past left));
  exact = λ limits past process blocks long none left exact.
      let mine_so_far : own (past ++ entries) i ≡ entries =
      filter-append _ past entries ∙ ap (λ es. es ++ own entries i) none ∙ leads.own_only in
      let follows = may limits (past ++ entries) process (blocks ∙ sym leads.blocks) long mine_so_far (leads.leaves past left) in
      subst (λ (h : List Entry). IsExact limits h) (append_assoc past entries (entry ∷ []))
      (exact_more limits (past ++ entries) entry (leads.exact limits past process blocks long none left exact) follows.0 follows.1);
}

-- a Got that the pool gives leads on to the pool after it
pub leads_got : (i : ℕ) (entries : List Entry) (block : ℕ) (old pool new : Plain) → Gives pool new block
    → Leads i entries old pool → Leads i (entries ++ Got i block ∷ []) old new
leads_got i entries block old pool new gives =
    leads_more i entries (Got i block) old pool new refl gives.blocks
    (λ past left. left_by_got past i block pool new left gives)
    (λ limits past process same long mine left. (got_may_follow limits past i block pool new process same left gives, tt))

-- a refusal of a full pool leads on, and leaves the pool
pub leads_dry : (i : ℕ) (entries : List Entry) (old pool : Plain) → IsFull pool → Leads i entries old pool
    → Leads i (entries ++ Dry i ∷ []) old pool
leads_dry i entries old pool full =
    leads_more i entries (Dry i) old pool pool refl refl
    (λ past left. left_by_dry past i pool left)
    (λ limits past process same long mine left.
    (dry_may_follow limits past i pool process long same left full, full_unheld limits past pool same left full))

-- a Back of a block that the calls hold leads on to the pool that takes it
pub leads_back : (i : ℕ) (entries : List Entry) (block : ℕ) (old pool new : Plain) → Takes pool new block → Contains (held entries) block
    → Leads i entries old pool → Leads i (entries ++ Back i block ∷ []) old new
leads_back i entries block old pool new takes holds =
    leads_more i entries (Back i block) old pool new refl takes.blocks
    (λ past left. left_by_back past i block pool new left takes)
    (λ limits past process same long mine left. ((process, subst (λ (es : List Entry). Contains (held es) block) (sym mine) holds), tt))
