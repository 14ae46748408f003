-- packing, and reading back
use Rattle.std.proofs.Common.{◌≡◌, ℕ, ◌+◌, ◌/◌, ◌%◌, ◌^◌, ◌<◌, Bool, true, false, refl, arith, add-one}
use Rattle.std.proofs.lemmas.Bool.Decides.{nat_tests}
use Rattle.std.proofs.lemmas.Nat.{div-mul-add, mod-mul-add}
use Rattle.word_layout.specs.Packing.{value_limit, tag_limit, parity, tagged, tag_of, value_of, announced_word, announced_of, FitsAnnounced, FitsWish, wish_code, wish_of, reply_value, reply_of, is_odd_reply, FitsReply, coded_reply, reply_code}
use Rattle.word_layout.specs.declared.announced.Announced.{Announced}
use Rattle.word_layout.specs.declared.announced.Wish.{Wish}
use Rattle.word_layout.specs.declared.announced.Wish.TheVariants.{Take, Give}
use Rattle.word_layout.specs.declared.reply.Reply.{Reply}
use Rattle.word_layout.specs.declared.reply.Reply.TheVariants.{Nothing, Took, Gave}

-- a tag is read back
pub tag_of-tagged : (tag value : ℕ) → value < value_limit → tag_of (tagged tag value) ≡ tag
unfolding tag_of tagged
tag_of-tagged tag value h = div-mul-add tag value_limit value h

-- a value is read back
pub value_of-tagged : (tag value : ℕ) → value < value_limit → value_of (tagged tag value) ≡ value
unfolding value_of tagged
value_of-tagged tag value h = mod-mul-add tag value_limit value h

-- a word is its tag and its value
pub tagged-parts : (word : ℕ) → tagged (tag_of word) (value_of word) ≡ word
unfolding tagged tag_of value_of
tagged-parts word = omega arith

-- a tagged word has 64 bits
pub tagged_lt : (tag value : ℕ) → tag < tag_limit → value < value_limit → tagged tag value < 2 ^ 64
unfolding tagged
tagged_lt tag value h k = omega arith

-- the code of a wish is a value
pub wish_code_lt : (wish : Wish) → FitsWish wish → wish_code wish < value_limit
wish_code_lt Take h = omega arith
wish_code_lt (Give head) h = omega arith

-- a wish is read back
pub wish_of-wish_code : (wish : Wish) → wish_of (wish_code wish) ≡ wish
wish_of-wish_code Take = refl
wish_of-wish_code (Give head) = rw add-one refl

-- an announcement is read back
pub announced_of-announced_word : (announced : Announced) → FitsAnnounced announced → announced_of (announced_word announced) ≡ announced
announced_of-announced_word announced h =
    let small = wish_code_lt announced.wish h.1 in
    rw (
      tag_of-tagged announced.number (wish_code announced.wish) small,
      value_of-tagged announced.number (wish_code announced.wish) small,
      wish_of-wish_code announced.wish,
    ) refl

-- the word of an announcement has 64 bits
pub announced_word_lt : (announced : Announced) → FitsAnnounced announced → announced_word announced < 2 ^ 64
announced_word_lt announced h =
    tagged_lt announced.number (wish_code announced.wish) (omega (arith, h.0)) (wish_code_lt announced.wish h.1)

-- the code of a reply is below the parity
pub reply_code_lt : (reply : Reply) → FitsReply reply → reply_code reply < parity
reply_code_lt Nothing h = omega arith
reply_code_lt (Took head) h = omega arith
reply_code_lt Gave h = omega arith

-- a reply is read back from its code
pub coded_reply-reply_code : (reply : Reply) → FitsReply reply → coded_reply (reply_code reply) ≡ reply
coded_reply-reply_code Nothing h = refl
coded_reply-reply_code (Took head) h = grind (arith, nat_tests)
coded_reply-reply_code Gave h = refl

-- a reply is read back
pub reply_of-reply_value : (odd : Bool) (reply : Reply) → FitsReply reply → reply_of (reply_value odd reply) ≡ reply
unfolding reply_of reply_value
reply_of-reply_value true reply h =
    let small = reply_code_lt reply h in
    let code : (parity + reply_code reply) % parity ≡ reply_code reply = omega arith in
    rw code (coded_reply-reply_code reply h)
reply_of-reply_value false reply h =
    let small = reply_code_lt reply h in
    let code : (0 + reply_code reply) % parity ≡ reply_code reply = omega arith in
    rw code (coded_reply-reply_code reply h)

-- the parity of a reply is read back
pub is_odd_reply-reply_value : (odd : Bool) (reply : Reply) → FitsReply reply → is_odd_reply (reply_value odd reply) ≡ odd
unfolding is_odd_reply reply_value
is_odd_reply-reply_value true reply h =
    let small = reply_code_lt reply h in
    let half : (parity + reply_code reply) / parity % 2 ≡ 1 = omega arith in
    rw half refl
is_odd_reply-reply_value false reply h =
    let small = reply_code_lt reply h in
    let half : (0 + reply_code reply) / parity % 2 ≡ 0 = omega arith in
    rw half refl

-- a reply is a value
pub reply_value_lt : (odd : Bool) (reply : Reply) → FitsReply reply → reply_value odd reply < value_limit
unfolding reply_value
reply_value_lt true reply h = let small = reply_code_lt reply h in omega arith
reply_value_lt false reply h = let small = reply_code_lt reply h in omega arith
