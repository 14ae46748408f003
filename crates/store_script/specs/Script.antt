-- The keys of a script and their slots.
use Rattle.std.specs.Prelude.{◌≡◌, ℕ, ◌+◌, ◌<◌, ◌==◌, List, [], ◌∷◌, ◌++◌, length, fold, All, Option, Some, None, option_map, is_some}
use Rattle.std.specs.Prelude.{if◌then◌else◌}
use Rattle.store_script.specs.declared.line.Request.{Request}
use Rattle.store_script.specs.declared.line.Request.TheVariants as asks
use Rattle.store_script.specs.declared.command.Command.{Command}
use Rattle.store_script.specs.declared.command.Command.TheVariants.{Put, Get, Set, Del}
use Rattle.store_script.specs.declared.command.StoreScript.{StoreScript}

-- the key that a command names
abbrev pub key_of : Command → ℕ
key_of (Put key slot value) = key
key_of (Get key slot) = key
key_of (Set key slot index value) = key
key_of (Del key slot) = key

-- the slot that it names
abbrev pub slot_of : Command → ℕ
slot_of (Put key slot value) = slot
slot_of (Get key slot) = slot
slot_of (Set key slot index value) = slot
slot_of (Del key slot) = slot

-- what it asks for, whatever its slot
abbrev pub request_of : Command → Request
request_of (Put key slot value) = asks.Put key value
request_of (Get key slot) = asks.Get key
request_of (Set key slot index value) = asks.Set key index value
request_of (Del key slot) = asks.Del key

-- the key that a request names
abbrev pub key_asked : Request → ℕ
key_asked (asks.Put key value) = key
key_asked (asks.Get key) = key
key_asked (asks.Set key index value) = key
key_asked (asks.Del key) = key

-- the command of a request, with a slot
abbrev pub command_of : Request → ℕ → Command
command_of (asks.Put key value) slot = Put key slot value
command_of (asks.Get key) slot = Get key slot
command_of (asks.Set key index value) slot = Set key slot index value
command_of (asks.Del key) slot = Del key slot

-- the place of a key among keys, counted from 0
abbrev pub place_of : ℕ → List ℕ → Option ℕ
place_of key [] = None
place_of key (first ∷ others) = if first == key then Some 0 else option_map (λ place. place + 1) (place_of key others)

-- a key behind others, where it isn't among them
abbrev pub with_key : List ℕ → ℕ → List ℕ
with_key keys key = if is_some (place_of key keys) then keys else keys ++ key ∷ []

-- the keys of commands, each once, in the order in which they first occur
abbrev pub keys_of : List Command → List ℕ
keys_of commands = fold (λ keys command. with_key keys (key_of command)) [] commands

-- a command's slot is the place of its key among these keys
abbrev pub HasSlotIn : List ℕ → Command → Type 0
HasSlotIn keys command = place_of (key_of command) keys ≡ Some (slot_of command)

-- a command names one of four numbers, where it names one
abbrev pub HasIndex : Command → Type 0
HasIndex (Put key slot value) = Unit {0}
HasIndex (Get key slot) = Unit {0}
HasIndex (Set key slot index value) = index < 4
HasIndex (Del key slot) = Unit {0}

-- the same of a request
abbrev pub HasIndexOf : Request → Type 0
HasIndexOf request = HasIndex (command_of request 0)

-- each command has the slot of its key, there are as many slots as keys, and each index is below 4
pub record IsWellFormed (script : StoreScript) : Type 0 where
  pub each : All (HasSlotIn (keys_of script.commands)) script.commands
  pub slots : script.slots ≡ length (keys_of script.commands)
  pub indices : All HasIndex script.commands
