-- Bytes are read as one store script.
use Rattle.std.proofs.Common.{◌≡◌, ℕ, suc, List, [], ◌∷◌, length, fold, map, refl, sym, ap, ◌∙◌, subst, arith}
use Rattle.std.specs.Prelude.{All}
use Rattle.std.proofs.lemmas.Option.{same_Some}
use Rattle.store_script.specs.declared.line.Request.{Request}
use Rattle.store_script.specs.declared.command.Command.{Command}
use Rattle.store_script.specs.declared.command.Command.TheVariants.{Put, Get, Set, Del}
use Rattle.store_script.specs.declared.command.StoreScript.{StoreScript}
use Rattle.store_script.specs.Reading.{IsReading}
use Rattle.store_script.specs.Script.{HasSlotIn, command_of, key_asked, key_of, keys_of, place_of, request_of, slot_of, with_key}

-- a command is that of its request with its slot
made_again : (command : Command) → command ≡ command_of (request_of command) (slot_of command)
made_again (Put key slot value) = refl
made_again (Get key slot) = refl
made_again (Set key slot index value) = refl
made_again (Del key slot) = refl

-- its key is that of its request
key_requested : (command : Command) → key_of command ≡ key_asked (request_of command)
key_requested (Put key slot value) = refl
key_requested (Get key slot) = refl
key_requested (Set key slot index value) = refl
key_requested (Del key slot) = refl

-- commands that ask for the same name the same key
one_key : (one other : Command) → request_of one ≡ request_of other → key_of one ≡ key_of other
one_key one other same = key_requested one ∙ ap key_asked same ∙ sym (key_requested other)

-- and so do lists of them
same_keys : (keys : List ℕ) (ones others : List Command) → map request_of ones ≡ map request_of others
    → fold (λ keys command. with_key keys (key_of command)) keys ones ≡ fold (λ keys command. with_key keys (key_of command)) keys others
same_keys keys [] [] same = refl
same_keys keys [] (other ∷ others) same = absurd (cc)
same_keys keys (one ∷ ones) [] same = absurd (cc)
same_keys keys (one ∷ ones) (other ∷ others) same =
    let head : request_of one ≡ request_of other = cc in
    let tail : map request_of ones ≡ map request_of others = cc in
    ap (λ key. fold (λ keys command. with_key keys (key_of command)) (with_key keys key) ones) (one_key one other head)
    ∙ same_keys (with_key keys (key_of other)) ones others tail

-- commands that ask for the same and have the slots of their keys are the same
same_commands : (keys : List ℕ) (ones others : List Command) → map request_of ones ≡ map request_of others
    → All (HasSlotIn keys) ones → All (HasSlotIn keys) others → ones ≡ others
same_commands keys [] [] same p q = refl
same_commands keys [] (other ∷ others) same p q = absurd (cc)
same_commands keys (one ∷ ones) [] same p q = absurd (cc)
same_commands keys (one ∷ ones) (other ∷ others) same p q =
    let head : request_of one ≡ request_of other = cc in
    let tail : map request_of ones ≡ map request_of others = cc in
    let slot : slot_of one ≡ slot_of other = same_Some (slot_of one) (slot_of other)
    (sym (p 0 one (omega arith)) ∙ ap (λ key. place_of key keys) (one_key one other head) ∙ q 0 other (omega arith)) in
    let command : one ≡ other = made_again one ∙ ap (λ request. command_of request (slot_of one)) head
    ∙ ap (command_of (request_of other)) slot ∙ sym (made_again other) in
    let rest : ones ≡ others = same_commands keys ones others tail (λ k d low. p (suc k) d (omega (arith, low)))
    (λ k d low. q (suc k) d (omega (arith, low))) in
    cc

-- bytes are read as one script
pub one_store_script : (bytes : List ℕ) (one other : StoreScript) → IsReading bytes one → IsReading bytes other → one ≡ other
one_store_script bytes one other p q =
    let asked : map request_of one.commands ≡ map request_of other.commands = p.commands ∙ sym q.commands in
    let keys : keys_of one.commands ≡ keys_of other.commands = same_keys [] one.commands other.commands asked in
    let commands : one.commands ≡ other.commands = same_commands (keys_of other.commands) one.commands other.commands asked
    (subst (λ (keys : List ℕ). All (HasSlotIn keys) one.commands) keys p.well_formed.each) q.well_formed.each in
    let slots : one.slots ≡ other.slots = p.well_formed.slots ∙ ap length keys ∙ sym q.well_formed.slots in
    let whole : one.bytes ≡ other.bytes = p.whole ∙ sym q.whole in
    ap (λ (cs : List Command). record one { commands = cs }) commands
    ∙ ap (λ (n : ℕ). record { commands = other.commands; slots = n; bytes = one.bytes }) slots
    ∙ ap (λ (n : ℕ). record { commands = other.commands; slots = other.slots; bytes = n }) whole
