-- One more request of a script.
use Rattle.std.proofs.Common.{◌≡◌, ℕ, true, false, cond, eqb, List, [], ◌∷◌, ◌++◌, length, map, All, None, Some, is_some, refl, ap, sym}
use Rattle.std.proofs.Common.{◌∙◌, subst}
use Rattle.std.proofs.lemmas.Bool.{eqb-true}
use Rattle.std.proofs.lemmas.List.{map-append}
use Rattle.std.proofs.lemmas.List.Elements.{All-push, All-weaker}
use Rattle.std.proofs.lemmas.List.Sums.{fold-append}
use Rattle.store_script.specs.declared.line.Request.{Request}
use Rattle.store_script.specs.declared.line.Request.TheVariants as asks
use Rattle.store_script.specs.declared.command.Command.{Command}
use Rattle.store_script.specs.declared.reading.ScriptWriter.{ScriptWriter}
use Rattle.store_script.specs.Script.{request_of, key_of, slot_of, key_asked, command_of, place_of, with_key, keys_of, HasSlotIn}
use Rattle.store_script.specs.Script.{HasIndex, HasIndexOf}
use Rattle.store_script.specs.Slots.{Names, NamesNext}
use Rattle.store_script.specs.ScriptWriter.{Keeps}
use Rattle.store_script.proofs.Places.{place_of-push}

-- a key keeps its place where another key comes
pub place_stays : (key q slot : ℕ) (keys : List ℕ) → place_of q keys ≡ Some slot → place_of q (with_key keys key) ≡ Some slot
place_stays key q slot keys at =
    elim (place_of key keys) as (λ o. place_of key keys ≡ o → place_of q (cond (is_some o) keys (keys ++ key ∷ [])) ≡ Some slot) [
      | Some place ↦ λ is. at
      | None ↦ λ fresh.
          place_of-push key q keys fresh
          ∙ elim (eqb key q) as (λ b. eqb key q ≡ b → cond b (Some (length keys)) (place_of q keys) ≡ Some slot) [
            | true ↦ λ same. let none_at : place_of q keys ≡ None = subst (λ k. place_of k keys ≡ None) (eqb-true key q same) fresh in
                absurd (cc)
            | false ↦ λ _. at
          ]
          refl
    ]
    refl

-- the command of a request asks for it, names its key and has the slot
request_of-command : (request : Request) (slot : ℕ) → request_of (command_of request slot) ≡ request
request_of-command (asks.Put key value) slot = refl
request_of-command (asks.Get key) slot = refl
request_of-command (asks.Set key index value) slot = refl
request_of-command (asks.Del key) slot = refl

key_of-command : (request : Request) (slot : ℕ) → key_of (command_of request slot) ≡ key_asked request
key_of-command (asks.Put key value) slot = refl
key_of-command (asks.Get key) slot = refl
key_of-command (asks.Set key index value) slot = refl
key_of-command (asks.Del key) slot = refl

slot_of-command : (request : Request) (slot : ℕ) → slot_of (command_of request slot) ≡ slot
slot_of-command (asks.Put key value) slot = refl
slot_of-command (asks.Get key) slot = refl
slot_of-command (asks.Set key index value) slot = refl
slot_of-command (asks.Del key) slot = refl

HasIndex-command : (request : Request) (slot : ℕ) → HasIndexOf request → HasIndex (command_of request slot)
HasIndex-command (asks.Put key value) slot h = h
HasIndex-command (asks.Get key) slot h = h
HasIndex-command (asks.Set key index value) slot h = h
HasIndex-command (asks.Del key) slot h = h

-- one more command may bring one more key
keys_of-push : (commands : List Command) (command : Command)
    → keys_of (commands ++ command ∷ []) ≡ with_key (keys_of commands) (key_of command)
keys_of-push commands command = fold-append (λ keys c. with_key keys (key_of c)) [] commands (command ∷ [])

-- commands and one more, whose key has its slot
HasSlotIn-push : (commands : List Command) (command : Command) → All (HasSlotIn (keys_of commands)) commands
    → place_of (key_of command) (with_key (keys_of commands) (key_of command)) ≡ Some (slot_of command)
    → All (HasSlotIn (with_key (keys_of commands) (key_of command))) (commands ++ command ∷ [])
HasSlotIn-push commands command each next =
    let keys = keys_of commands in
    let more = with_key (keys_of commands) (key_of command) in
    All-push (HasSlotIn more) commands command
    (All-weaker (HasSlotIn (keys_of commands)) (HasSlotIn more)
    (λ c at. place_stays (key_of command) (key_of c) (slot_of c) (keys_of commands) at) commands each)
    next

-- a writer that keeps a request
pub keeps : (before after : ScriptWriter) (request : Request) (slot : ℕ) → NamesNext before.slots after.slots (key_asked request) slot
    → after.commands.items ≡ before.commands.items ++ command_of request slot ∷ [] → Keeps before after request
keeps before after request slot next pushed index requests at =
    let old = before.commands.items in
    let command = command_of request slot in
    let key = key_of-command request slot in
    let named = next (keys_of before.commands.items) at.names in
    let grown : keys_of after.commands.items ≡ with_key (keys_of before.commands.items) (key_asked request) =
    ap keys_of pushed ∙ keys_of-push before.commands.items (command_of request slot) ∙ ap (with_key (keys_of before.commands.items)) key
    in
    let placed : place_of (key_of (command_of request slot))
    (with_key (keys_of before.commands.items) (key_of (command_of request slot))) ≡ Some (slot_of (command_of request slot)) =
    ap (λ k. place_of k (with_key (keys_of before.commands.items) k)) key ∙ named.1 ∙ ap Some (sym (slot_of-command request slot))
    in
    let each = HasSlotIn-push before.commands.items (command_of request slot) at.each placed in
    record {
      commands = ap (map request_of) pushed ∙ map-append request_of before.commands.items (command_of request slot ∷ [])
          ∙ ap (λ all. all ++ request_of (command_of request slot) ∷ []) at.commands
          ∙ ap (λ r. requests ++ r ∷ []) (request_of-command request slot);
      names = subst (Names after.slots) (sym grown) named.0;
      each =
          let P : List Command → Type 0 = λ commands. All (HasSlotIn (keys_of commands)) commands in
          let Q : List ℕ → Type 0 = λ keys. All (HasSlotIn keys) (before.commands.items ++ command_of request slot ∷ []) in
          subst P (sym pushed) (subst Q (sym (keys_of-push before.commands.items (command_of request slot))) each);
      indices = subst (All HasIndex) (sym pushed)
          (All-push HasIndex before.commands.items (command_of request slot) at.indices (HasIndex-command request slot index));
    }
