use Rattle.std.specs.Prelude.{ℕ, ◌+◌, ◌-◌, ◌*◌, ◌/◌, ◌%◌, ◌^◌, ◌<◌, zero, suc, Bool, ◌==◌, if◌then◌else◌}
use Rattle.word_layout.specs.Sizes.{Sizes, most_blocks}
use Rattle.word_layout.specs.declared.announced.Announced.{Announced}
use Rattle.word_layout.specs.declared.announced.Wish.{Wish}
use Rattle.word_layout.specs.declared.announced.Wish.TheVariants.{Take, Give}
use Rattle.word_layout.specs.declared.reply.Reply.{Reply}
use Rattle.word_layout.specs.declared.reply.Reply.TheVariants.{Nothing, Took, Gave}

-- a value is below this
abbrev pub value_limit : ℕ
value_limit = 2 ^ 24

-- a tag is below this
abbrev pub tag_limit : ℕ
tag_limit = 2 ^ 40

-- the tag of the last state where each process has begun so many transfers: the opening's state has 1, and each transfer adds 1
abbrev pub last_state_tag : Sizes → ℕ → ℕ
last_state_tag sizes transfers = 1 + sizes.processes * transfers

-- so many transfers of each process have tags: even the number above the last state's, which goes into a record, is one
abbrev pub HaveTags : Sizes → ℕ → Type 0
HaveTags sizes transfers = last_state_tag sizes transfers + 1 < tag_limit

-- the number of a process's last transfer: the greatest for which all transfers have tags
unfoldable pub most_age : Sizes → ℕ
most_age sizes = (tag_limit - 3) / sizes.processes

-- what an odd number adds to the value of a reply
abbrev pub parity : ℕ
parity = 2 ^ 23

-- a tagged word
unfoldable pub tagged : ℕ → ℕ → ℕ
tagged tag value = tag * value_limit + value

-- the tag of a tagged word
unfoldable pub tag_of : ℕ → ℕ
tag_of word = word / value_limit

-- the value of a tagged word
unfoldable pub value_of : ℕ → ℕ
value_of word = word % value_limit

-- the code of a wish: 0 for a take, the head plus 1 for a give
abbrev pub wish_code : Wish → ℕ
wish_code Take = 0
wish_code (Give head) = head + 1

-- the wish of a code
abbrev pub wish_of : ℕ → Wish
wish_of zero = Take
wish_of (suc head) = Give head

-- the head of a wish is a block
abbrev pub FitsWish : Wish → Type 0
FitsWish Take = Unit {0}
FitsWish (Give head) = head < most_blocks

-- the number of a transfer is a tag, and its head is within its limit
abbrev pub FitsAnnounced : Announced → Type 0
FitsAnnounced announced = (announced.number < tag_limit) × FitsWish announced.wish

-- the word of an announcement: the transfer's number is the tag
abbrev pub announced_word : Announced → ℕ
announced_word announced = tagged announced.number (wish_code announced.wish)

-- the announcement of a word
abbrev pub announced_of : ℕ → Announced
announced_of word = record { number = tag_of word; wish = wish_of (value_of word) }

-- the code of a give, above those of all heads
abbrev pub gave_code : ℕ
gave_code = most_blocks + 1

-- the code of a reply: 0 for nothing, the head plus 1 for a batch
abbrev pub reply_code : Reply → ℕ
reply_code Nothing = 0
reply_code (Took head) = head + 1
reply_code Gave = gave_code

-- the head of a reply is a block
abbrev pub FitsReply : Reply → Type 0
FitsReply Nothing = Unit {0}
FitsReply (Took head) = head < most_blocks
FitsReply Gave = Unit {0}

-- the value of a reply to a transfer with an odd or an even number
unfoldable pub reply_value : Bool → Reply → ℕ
reply_value odd reply = (if odd then parity else 0) + reply_code reply

-- whether a value replies to a transfer with an odd number
unfoldable pub is_odd_reply : ℕ → Bool
is_odd_reply value = value / parity % 2 == 1

-- the reply of a code
abbrev pub coded_reply : ℕ → Reply
coded_reply code = if code == 0 then Nothing else (if code == gave_code then Gave else Took (code - 1))

-- the reply of a value
unfoldable pub reply_of : ℕ → Reply
reply_of value = coded_reply (value % parity)
