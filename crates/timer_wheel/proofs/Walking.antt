-- A walk along a list, in search of a number.
use Rattle.std.proofs.Common.{◌≡◌, ◌≢◌, ℕ, ◌+◌, ◌-◌, ◌*◌, ◌<◌, ◌≤◌, None}
use Rattle.std.proofs.Common.{Some, List, [], ◌∷◌, ◌++◌, option_map, length, refl, sym, ap, subst}
use Rattle.std.proofs.Common.{◌∙◌, arith, length-append, append_assoc, append-nil}
use Rattle.std.proofs.lemmas.Option.{none-some, same_Some}
use Rattle.block_pool.specs.Passing.{Passed}
use Rattle.object_store.specs.Calls.{CountedWithin}
use Rattle.object_store.specs.Objects.{ObjectView}
use Rattle.timer_wheel.specs.declared.record.TimerRecord.{TimerRecord}
use Rattle.timer_wheel.specs.declared.changes.Placed.{Placed}
use Rattle.timer_wheel.specs.declared.chain.Chain.{Chain}
use Rattle.timer_wheel.specs.declared.chain.Spot.{Spot}
use Rattle.timer_wheel.specs.Places.{Places, IsChain, Leads, Stands, in_list, last_link, record_of, value_at}
use Rattle.timer_wheel.specs.Spots.{HaveNot, IsSpot}
use Rattle.timer_wheel.proofs.Lists.{each_append}
use Rattle.timer_wheel.proofs.Chains.{last_append}

-- the walk is behind some timers of a list, and before the others
pub record WalksTo (places : Places) (chain : List Placed) (before at : ℕ) (front rest : List Placed) : Type 0 where
  pub all : chain ≡ front ++ rest
  pub last : before ≡ last_link front
  pub leads : Leads places at rest 0

-- it begins before the first
pub walk_begins : (places : Places) (ends : Chain) (chain : List Placed) → IsChain places ends chain
    → WalksTo places chain 0 ends.first [] chain
walk_begins places ends chain is = record { all = refl; last = refl; leads = is.leads }

-- the link leads to a timer that is read there, or to nothing
pub record Meets (places : Places) (at : ℕ) (rest : List Placed) (timer : TimerRecord) : Type 0 where
  pub t : Placed
  pub more : List Placed
  pub is : rest ≡ t ∷ more
  pub place : at ≡ t.place + 1
  pub timer_is : timer ≡ record_of t timer.next
  pub stands : Stands places t timer.next
  pub leads : Leads places timer.next more 0

-- what is read where the link leads is the next timer's record
pub meets : (places : Places) (at : ℕ) (rest : List Placed) (timer : TimerRecord) → at ≢ 0 → Leads places at rest 0
    → value_at places (at - 1) ≡ Some timer → Meets places at rest timer
meets places at [] timer some leads read = absurd (some leads)
meets places at (t ∷ more) timer some leads read =
    let next : ℕ = leads.1.0 in
    let stands : Stands places t next = leads.1.1.0 in
    let place : at - 1 ≡ t.place = omega (arith, leads.0) in
    let is : record_of t next ≡ timer =
    same_Some (record_of t next) timer
    (sym (ap (option_map (λ (o : ObjectView TimerRecord). o.value)) stands.at) ∙ ap (value_at places) (sym place) ∙ read) in
    let same : next ≡ timer.next = ap (λ (r : TimerRecord). r.next) is in
    record {
      t = t;
      more = more;
      is = refl;
      place = leads.0;
      timer_is = sym is ∙ ap (record_of t) same;
      stands = subst (λ (m : ℕ). Stands places t m) same stands;
      leads = subst (λ (m : ℕ). Leads places m more 0) same leads.1.1.1;
    }

-- something is read there
pub meets_some : (places : Places) (at : ℕ) (rest : List Placed) → at ≢ 0 → Leads places at rest 0 → value_at places (at - 1) ≡ None → ⊥
meets_some places at [] some leads read = some leads
meets_some places at (t ∷ more) some leads read =
    let place : at - 1 ≡ t.place = omega (arith, leads.0) in
    none-some (record_of t leads.1.0)
    (sym read ∙ ap (value_at places) place ∙ ap (option_map (λ (o : ObjectView TimerRecord). o.value)) leads.1.1.0.at)

-- the walk goes on behind the timer that it met
pub walk_goes : (places : Places) (chain : List Placed) (before at : ℕ) (front rest : List Placed) (timer : TimerRecord)
    → WalksTo places chain before at front rest → (m : Meets places at rest timer)
    → WalksTo places chain at timer.next (front ++ m.t ∷ []) m.more
walk_goes places chain before at front rest timer walk m = record {
  all = walk.all ∙ ap (λ (r : List Placed). front ++ r) m.is ∙ sym (append_assoc front (m.t ∷ []) m.more);
  last = m.place ∙ sym (last_append front m.t []);
  leads = m.leads;
}

-- the walk ends where nothing follows
pub walk_ended : (places : Places) (chain : List Placed) (before at : ℕ) (front rest : List Placed)
    → WalksTo places chain before at front rest → at ≡ 0 → rest ≡ []
walk_ended places chain before at front [] walk e = refl
walk_ended places chain before at front (t ∷ ts) walk e = absurd (omega (arith, e, walk.leads.0))

-- ---- in search of a number

-- no timer so far has the number, and each took four steps
pub record Seeks (number : ℕ) (places : Places) (chain : List Placed) (before at : ℕ) (start steps : ℕ) (old new : Passed) : Type 0 where
  pub front : List Placed
  pub rest : List Placed
  pub walk : WalksTo places chain before at front rest
  pub none : HaveNot number front
  pub pass : new ≡ record old { moves = old.moves + 4 * length front }
  pub counted : steps ≡ start + 4 * length front

-- how many timers are still before it
pub seeks_low : (number : ℕ) (places : Places) (chain : List Placed) (before at start steps : ℕ) (old new : Passed)
    → Seeks number places chain before at start steps old new → at ≢ 0 → steps + 4 ≤ start + 4 * length chain
seeks_low number places chain before at start steps old new seeks some =
    go seeks.rest seeks.walk.leads (ap length seeks.walk.all ∙ length-append seeks.front seeks.rest)
  where
    go : (rest : List Placed) → Leads places at rest 0 → length chain ≡ length seeks.front + length rest
        → steps + 4 ≤ start + 4 * length chain
    go [] leads many = absurd (some leads)
    go (t ∷ ts) leads many = omega (arith, many, seeks.counted)

-- the timer that it met has another number
pub seeks_on : (number : ℕ) (places : Places) (chain : List Placed) (before at start steps : ℕ) (old new after : Passed) (timer :
    TimerRecord)
    (later : ℕ) → (seeks : Seeks number places chain before at start steps old new) → at ≢ 0 → value_at places (at - 1) ≡ Some timer
    → timer.number ≢ number → after ≡ record new { moves = new.moves + 4 } → later ≡ steps + 4
    → Seeks number places chain at timer.next start later old after
seeks_on number places chain before at start steps old new after timer later seeks some read ne pass counted =
    let m = meets places at seeks.rest timer some seeks.walk.leads read in
    let size : length (seeks.front ++ m.t ∷ []) ≡ length seeks.front + 1 = length-append seeks.front (m.t ∷ []) in
    let moves : new.moves ≡ old.moves + 4 * length seeks.front = ap (λ (p : Passed). p.moves) seeks.pass in
    let total : new.moves + 4 ≡ old.moves + 4 * length (seeks.front ++ m.t ∷ []) = omega (arith, moves, size) in
    record {
      front = seeks.front ++ m.t ∷ [];
      rest = m.more;
      walk = walk_goes places chain before at seeks.front seeks.rest timer seeks.walk m;
      none = each_append (λ t. t.number ≢ number) seeks.front (m.t ∷ []) seeks.none
          ((λ (e : m.t.number ≡ number). ne (ap (λ (r : TimerRecord). r.number) m.timer_is ∙ e)), tt);
      pass = pass ∙ ap (λ (p : Passed). record p { moves = new.moves + 4 }) seeks.pass
          ∙ ap (λ (k : ℕ). record old { moves = k }) total;
      counted = omega (arith, counted, seeks.counted, size);
    }

-- it has that number: its spot is found
pub seeks_found : (number list lists : ℕ) (places : Places) (running : List Placed) (before at start steps : ℕ) (old new : Passed)
    (timer : TimerRecord) (spot : Spot) → (seeks : Seeks number places (in_list lists list running) before at start steps old new) → at ≢ 0
    → value_at places (at - 1) ≡ Some timer → list < lists
    → spot ≡ record { list = list; before = before; place = at - 1; timer = timer } → IsSpot places lists running spot
seeks_found number list lists places running before at start steps old new timer spot seeks some read low is =
    let m = meets places at seeks.rest timer some seeks.walk.leads read in
    subst (IsSpot places lists running) (sym is) (record {
      front = seeks.front;
      t = m.t;
      rest = m.more;
      is = record {
        list = low;
        chain = seeks.walk.all ∙ ap (λ (r : List Placed). seeks.front ++ r) m.is;
        before = seeks.walk.last;
        place = omega (arith, m.place);
        timer = m.timer_is;
        stands = m.stands;
      };
    })

-- the walk is at its end: no timer of the list has the number
pub seeks_ended : (number : ℕ) (places : Places) (chain : List Placed) (before at start steps : ℕ) (old new : Passed)
    → Seeks number places chain before at start steps old new → at ≡ 0 → HaveNot number chain
seeks_ended number places chain before at start steps old new seeks e =
    let none : seeks.rest ≡ [] = walk_ended places chain before at seeks.front seeks.rest seeks.walk e in
    subst (HaveNot number)
    (sym (seeks.walk.all ∙ ap (λ (r : List Placed). seeks.front ++ r) none ∙ append-nil seeks.front)) seeks.none

-- the steps of the walk so far
pub seeks_counted : (number : ℕ) (places : Places) (chain : List Placed) (before at start steps : ℕ) (old new : Passed)
    → Seeks number places chain before at start steps old new → CountedWithin 0 (4 * length chain) start steps old new
seeks_counted number places chain before at start steps old new seeks =
    let many : length chain ≡ length seeks.front + length seeks.rest
    = ap length seeks.walk.all ∙ length-append seeks.front seeks.rest in
    record {
      made = 4 * length seeks.front;
      least = omega arith;
      most = omega (arith, many);
      steps = seeks.counted;
      moves = ap (λ (p : Passed). p.moves) seeks.pass;
    }

-- before the first step
pub seeks_begins : (number : ℕ) (places : Places) (ends : Chain) (chain : List Placed) (first start : ℕ) (pass : Passed)
    → IsChain places ends chain → first ≡ ends.first → Seeks number places chain 0 first start start pass pass
seeks_begins number places ends chain first start pass is e =
    let none : pass.moves ≡ pass.moves + 4 * 0 = omega arith in
    record {
      front = [];
      rest = chain;
      walk = subst (λ (f : ℕ). WalksTo places chain 0 f [] chain) (sym e) (walk_begins places ends chain is);
      none = tt;
      pass = ap (λ (k : ℕ). record pass { moves = k }) none;
      counted = omega arith;
    }

-- the steps of the walk with one read more
pub seeks_read : (number : ℕ) (places : Places) (chain : List Placed) (before at start steps : ℕ) (old new after : Passed) (later : ℕ)
    → Seeks number places chain before at start steps old new → at ≢ 0 → after ≡ record new { moves = new.moves + 4 } → later ≡ steps + 4
    → CountedWithin 0 (4 * length chain) start later old after
seeks_read number places chain before at start steps old new after later seeks some pass counted =
    let low = seeks_low number places chain before at start steps old new seeks some in
    let was : new.moves ≡ old.moves + 4 * length seeks.front = ap (λ (p : Passed). p.moves) seeks.pass in
    let now : after.moves ≡ new.moves + 4 = ap (λ (p : Passed). p.moves) pass in
    record {
      made = 4 * length seeks.front + 4;
      least = omega arith;
      most = omega (arith, low, seeks.counted);
      steps = omega (arith, counted, seeks.counted);
      moves = omega (arith, was, now);
    }
