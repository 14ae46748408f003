-- what holds of names, places and packed words; each is the contract of a call of `laws`
use Rattle.std.specs.Prelude.{◌≡◌, ◌≢◌, ℕ, ◌+◌, ◌*◌, ◌^◌, ◌<◌, ◌≤◌, List, length, Bool}
use Rattle.word_layout.specs.Sizes.{Sizes, IsShape, IsLength, blocks}
use Rattle.word_layout.specs.Faults.{HasFault, IsFirstFault}
use Rattle.word_layout.specs.Names.{InRange, place, table_words, word_at, set_word}
use Rattle.word_layout.specs.Packing.{value_limit, tag_limit, HaveTags, most_age, tagged, tag_of, value_of, FitsAnnounced, announced_word, announced_of, FitsReply, reply_value, reply_of, is_odd_reply}
use Rattle.word_layout.specs.declared.announced.Announced.{Announced}
use Rattle.word_layout.specs.declared.fault.ShapeFault.{ShapeFault}
use Rattle.word_layout.specs.declared.name.WordName.{WordName}
use Rattle.word_layout.specs.declared.reply.Reply.{Reply}

-- no two numbers are the blocks of a batch
abbrev pub LengthIsOne : Type 0
LengthIsOne = (processes quantum l m : ℕ) → IsLength processes quantum l → IsLength processes quantum m → l ≡ m

-- numbers that have a first fault have no other first fault
abbrev pub FirstFaultIsOne : Type 0
FirstFaultIsOne =
    (processes batches words quantum : ℕ) (x y : ShapeFault)
    → IsFirstFault processes batches words quantum x
    → IsFirstFault processes batches words quantum y
    → x ≡ y

-- the numbers of a shape have no fault
abbrev pub ShapesHaveNoFault : Type 0
ShapesHaveNoFault =
    (sizes : Sizes) (fault : ShapeFault) → IsShape sizes → ¬ HasFault sizes.processes sizes.batches sizes.words sizes.quantum fault

-- a batch has at least two blocks
abbrev pub BatchesHaveTwoBlocks : Type 0
BatchesHaveTwoBlocks = (sizes : Sizes) → IsShape sizes → 2 ≤ sizes.length

-- the blocks of every batch lie within the blocks
abbrev pub BatchesLieWithinBlocks : Type 0
BatchesLieWithinBlocks = (sizes : Sizes) (t : ℕ) → t < sizes.batches → t * sizes.length + sizes.length ≤ blocks sizes

-- the place of every name in range is in the table
abbrev pub PlacesAreInTable : Type 0
PlacesAreInTable = (sizes : Sizes) (name : WordName) → InRange sizes name → place sizes name < table_words sizes

-- two different names in range have two places
abbrev pub PlacesDiffer : Type 0
PlacesDiffer = (sizes : Sizes) (x y : WordName) → InRange sizes x → InRange sizes y → x ≢ y → place sizes x ≢ place sizes y

-- each place in the table is that of some name in range
abbrev pub PlacesHaveNames : Type 0
PlacesHaveNames = (sizes : Sizes) (n : ℕ) → n < table_words sizes → (name : WordName) × InRange sizes name × (place sizes name ≡ n)

-- a word that is set at a name is read there
abbrev pub SetWordIsRead : Type 0
SetWordIsRead =
    (sizes : Sizes) (words : List ℕ) (name : WordName) (word : ℕ)
    → length words ≡ table_words sizes
    → InRange sizes name
    → word_at sizes (set_word sizes words name word) name ≡ word

-- and at every other name the old word is read
abbrev pub OtherWordsStay : Type 0
OtherWordsStay =
    (sizes : Sizes) (words : List ℕ) (name other : WordName) (word : ℕ)
    → InRange sizes name
    → InRange sizes other
    → other ≢ name
    → word_at sizes (set_word sizes words name word) other ≡ word_at sizes words other

-- a tagged word fits 64 bits
abbrev pub TaggedFits : Type 0
TaggedFits = (tag value : ℕ) → tag < tag_limit → value < value_limit → tagged tag value < 2 ^ 64

-- a tag and a value are read back
abbrev pub TaggedReadsBack : Type 0
TaggedReadsBack = (tag value : ℕ) → value < value_limit → (tag_of (tagged tag value) ≡ tag) × (value_of (tagged tag value) ≡ value)

-- where each process begins its most transfers, all have tags
abbrev pub MostAgeHasTags : Type 0
MostAgeHasTags = (sizes : Sizes) → IsShape sizes → HaveTags sizes (most_age sizes)

-- and with more they don't
abbrev pub MostAgeIsGreatest : Type 0
MostAgeIsGreatest = (sizes : Sizes) (n : ℕ) → IsShape sizes → HaveTags sizes n → n ≤ most_age sizes

-- the word of an announcement fits 64 bits
abbrev pub AnnouncedFits : Type 0
AnnouncedFits = (announced : Announced) → FitsAnnounced announced → announced_word announced < 2 ^ 64

-- an announcement is read back
abbrev pub AnnouncedReadsBack : Type 0
AnnouncedReadsBack = (announced : Announced) → FitsAnnounced announced → announced_of (announced_word announced) ≡ announced

-- a reply is a value
abbrev pub ReplyFits : Type 0
ReplyFits = (odd : Bool) (reply : Reply) → FitsReply reply → reply_value odd reply < value_limit

-- a reply and its parity are read back
abbrev pub ReplyReadsBack : Type 0
ReplyReadsBack =
    (odd : Bool) (reply : Reply)
    → FitsReply reply
    → (is_odd_reply (reply_value odd reply) ≡ odd) × (reply_of (reply_value odd reply) ≡ reply)
