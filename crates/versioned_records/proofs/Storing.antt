-- the store of a record word is the machine's next step
use Rattle.std.proofs.Common.{◌≡◌, ℕ, ◌+◌, ◌<◌, refl, sym, ap, ◌∙◌, subst}
use Rattle.word_layout.specs.Sizes.{Sizes}
use Rattle.word_layout.specs.Names.{record_words}
use Rattle.word_layout.specs.Packing.{tagged, tag_limit, value_limit}
use Rattle.word_layout.specs.declared.name.WordName.TheVariants.{RecordWord}
use Rattle.transfer_machine.specs.Loads.{loaded_tag}
use Rattle.transfer_machine.specs.Machine.{action_at, action_of, CanActAt, CanStore}
use Rattle.transfer_machine.specs.declared.action.Action.TheVariants.{Store}
use Rattle.transfer_machine.specs.declared.transfer.TransferView.{TransferView}
use Rattle.interleaving_core.specs.StepLaws.{word_met}
use Rattle.interleaving_core.specs.Steps.{next_action}
use Rattle.pool_table.specs.declared.about.About.{About}
use Rattle.pool_table.specs.Turns.{turning}
use Rattle.pool_table.specs.Views.{SeatView}
use Rattle.pool_table.specs.Steps.{CanStep, Stepped, answered}
use Rattle.pool_table.specs.Transfers.{transfer_about}
use Rattle.pool_table.proofs.Transfers.{transfer_can_act, transfer_acts_next}
use Rattle.versioned_records.specs.Stores.{IsToStore, StoresWord}

stores_action : (sizes : Sizes) (t : TransferView) (tag row index value : ℕ) → IsToStore sizes t tag row index value
    → Store (RecordWord row index) (tagged tag value) ≡ action_of sizes t
stores_action sizes t tag row index value d =
    ap (λ r. Store (RecordWord r index) (tagged tag value)) (sym d.same_row)
    ∙ (ap (λ k. Store (RecordWord t.next_record index) (tagged k value)) (sym d.same_tag)
    ∙ (ap (λ k. Store (RecordWord t.next_record index) (tagged (loaded_tag t.loaded + 1) k)) (sym d.same_value)
    ∙ sym (ap (action_at sizes t) d.next)))

-- the store of a record word is the next action
pub store_is_next : (sizes : Sizes) (a : About) (v : SeatView) (tag row index value word : ℕ) → StoresWord sizes a v tag row index value
    → word ≡ tagged tag value → Store (RecordWord row index) word ≡ next_action sizes (turning a v.mind.view)
store_is_next sizes a v tag row index value word s e =
    let t = transfer_about a v in
    transfer_acts_next sizes a v t (Store (RecordWord row index) word) (record { same = refl; moves = s.moves })
    (ap (Store (RecordWord row index)) e ∙ stores_action sizes t tag row index value s.stores)

-- what it stores fits a word, in a place of a record
pub record StoreFits (sizes : Sizes) (tag index value : ℕ) : Type 0 where
  pub within : index < record_words sizes
  pub tag_fits : tag < tag_limit
  pub value_fits : value < value_limit

-- and what it stores fits its word
pub store_fits : (sizes : Sizes) (a : About) (v : SeatView) (tag row index value : ℕ) → CanStep sizes a v
    → StoresWord sizes a v tag row index value → StoreFits sizes tag index value
store_fits sizes a v tag row index value c s =
    let t = transfer_about a v in
    let can : CanStore sizes t index = subst (CanActAt sizes t) s.stores.next
    (transfer_can_act sizes a v t c (record { same = refl; moves = s.moves })) in
    let (row_low, index_low, room, tag_low, value_low) = can in
    record {
      within = index_low;
      tag_fits = subst (λ k. k < tag_limit) s.stores.same_tag tag_low;
      value_fits = subst (λ k. k < value_limit) s.stores.same_value value_low;
    }

-- the step left that word
pub store_leaves : (sizes : Sizes) (a : About) (v x : SeatView) (tag row index value word answer : ℕ) → CanStep sizes a v
    → StoresWord sizes a v tag row index value → word ≡ tagged tag value → Stepped a v answer x → Stepped a v word x
store_leaves sizes a v x tag row index value word answer c s e stepped =
    let acts : next_action v.sizes (turning a v.mind.view) ≡ Store (RecordWord row index) word =
    ap (λ z. next_action z (turning a v.mind.view)) c.shape ∙ sym (store_is_next sizes a v tag row index value word s e) in
    let met = word_met v.sizes stepped.made.words (turning a v.mind.view) in
    subst (λ w. Stepped a v w x) (stepped.made.answers ∙ ap (λ action. answered action met) acts) stepped
