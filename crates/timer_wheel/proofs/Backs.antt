-- Links back along lists: what leaves them, and how two lists are cut and joined.
use Rattle.std.proofs.Common.{◌≡◌, ◌≢◌, ℕ, ◌+◌, ◌-◌, ◌<◌, ◌==◌, Bool, true, false, cond, List, [], ◌∷◌, ◌++◌}
use Rattle.std.proofs.Common.{length, set, refl, ap, ◌∙◌, arith}
use Rattle.std.proofs.lemmas.Bool.Decides.{nat_tests}
use Rattle.std.proofs.lemmas.List.{get_or-set_same, get_or-set_other, length-set}
use Rattle.timer_wheel.specs.declared.changes.Placed.{Placed}
use Rattle.timer_wheel.specs.Backs.{LeadBack, backed}
use Rattle.timer_wheel.specs.Places.{last_link}
use Rattle.timer_wheel.specs.Tables.{Each}

-- where none of the timers stands at a place, another link there changes nothing
pub back_kept : (backs : List ℕ) (before place link : ℕ) (ts : List Placed) → Each (λ s. s.place ≢ place) ts → LeadBack backs before ts
    → LeadBack (set backs place link) before ts
back_kept backs before place link [] each l = tt
back_kept backs before place link (t ∷ ts) each l =
    (get_or-set_other backs place t.place link 0 each.0 ∙ l.0, back_kept backs (t.place + 1) place link ts each.1 l.1)

-- the link back of a timer that stands behind these: to the last of them, or to the one before them
abbrev pub behind : ℕ → List Placed → ℕ
behind before [] = before
behind before (t ∷ ts) = behind (t.place + 1) ts

behind_some : (before : ℕ) (t : Placed) (ts : List Placed) → behind before (t ∷ ts) ≡ last_link (t ∷ ts)
behind_some before t [] = refl
behind_some before t (u ∷ us) = behind_some (t.place + 1) u us

-- it is the last link where none is before them
pub behind_last : (ts : List Placed) → behind 0 ts ≡ last_link ts
behind_last [] = refl
behind_last (t ∷ ts) = behind_some 0 t ts

-- two lists behind each other lead back as each does
pub back_split : (backs : List ℕ) (before : ℕ) (a b : List Placed) → LeadBack backs before (a ++ b)
    → LeadBack backs before a × LeadBack backs (behind before a) b
back_split backs before [] b l = (tt, l)
back_split backs before (t ∷ a) b l = let r = back_split backs (t.place + 1) a b l.1 in ((l.0, r.0), r.1)

-- and two that do are one
pub back_join : (backs : List ℕ) (before : ℕ) (a b : List Placed) → LeadBack backs before a → LeadBack backs (behind before a) b
    → LeadBack backs before (a ++ b)
back_join backs before [] b l m = m
back_join backs before (t ∷ a) b l m = (l.0, back_join backs (t.place + 1) a b l.1 m)

-- the first of some timers has another one before it
pub back_first : (backs : List ℕ) (before link : ℕ) (t : Placed) (ts : List Placed) → t.place < length backs
    → Each (λ s. s.place ≢ t.place) ts → LeadBack backs before (t ∷ ts) → LeadBack (set backs t.place link) link (t ∷ ts)
back_first backs before link t ts low each l =
    (get_or-set_same backs t.place link 0 low, back_kept backs (t.place + 1) t.place link ts each l.1)

-- ---- the link back of the timer to which a link leads

-- of that at a place
pub backed_at : (place link before : ℕ) (backs : List ℕ) → link ≡ place + 1 → backed link before backs ≡ set backs place before
backed_at place link before backs e =
    pick (link == 0) (grind (arith, nat_tests)) ∙ ap (λ (q : ℕ). set backs q before) (omega (arith, e))
  where
    pick : (b : Bool) → b ≡ false → cond b backs (set backs (link - 1) before) ≡ set backs (link - 1) before
    pick true is = absurd (cc)
    pick false is = refl

-- each place has one still
pub backed_length : (link before : ℕ) (backs : List ℕ) → length (backed link before backs) ≡ length backs
backed_length link before backs = pick (link == 0)
  where
    pick : (b : Bool) → length (cond b backs (set backs (link - 1) before)) ≡ length backs
    pick true = refl
    pick false = length-set backs (link - 1) before
