use Rattle.std.proofs.Common.{◌≡◌, ℕ, ◌+◌, ◌<◌, true, false, refl, sym, ◌∙◌, add-zero, arith}
use Rattle.lwkt_base.specs.declared.names.CpuId.{CpuId}
use Rattle.lwkt_base.specs.declared.owners.Owner.{Owner}
use Rattle.lwkt_base.specs.declared.owners.Owner.TheVariants.{Rest, Out, With, Back}
use Rattle.lwkt_base.specs.declared.opening_specs.MsgSpec.{MsgSpec}
use Rattle.lwkt_core.specs.declared.messages.Message.{Message}
use Rattle.lwkt_core.specs.declared.events.Event.{Event}
use Rattle.lwkt_core.specs.declared.events.Event.TheVariants.{Load, Take, Share, Again, Mark, GiveOne, GiveClean, GiveWritten, Read, Write, ReadBlob, WriteBlob, Send, TakeMsg, DropMsg, Reply, Reap, Abort}
use Rattle.lwkt_core.specs.Events.{cpu_of}
use Rattle.lwkt_core.specs.Messages.{IsSafeMessage, MessageNeeds, message_after, MayBeSent, is_away}
use Rattle.lwkt_core.specs.Opening.{opened_message, IsMessageWithin}

-- the message with another owner
abbrev owned : Message → Owner → Message
owned msg owner = record msg { owner = owner }

-- at rest with a processor, and then sent
after_send : (cpus : ℕ) (msg : Message) (o cpu to : CpuId) (round : ℕ) → IsSafeMessage cpus (owned msg (Rest o)) → MayBeSent cpus (owned msg (Rest o)) cpu to round → IsSafeMessage cpus (message_after (owned msg (Rest o)) (Send cpu (record { 0 = 0 }) to round))
after_send cpus msg o cpu to round s needs =
    let same : Rest o ≡ Rest cpu = needs.0 in
    let o_is : o ≡ cpu = cc in
    let opened : msg.opening + msg.sends ≡ msg.round = s.sent in
    let counted : msg.takes + msg.drops + 0 ≡ msg.sends = s.taken in
    let next : round ≡ msg.round + 1 = needs.2 in
    record {
      home = sym o_is ∙ s.home;
      origin_there = s.origin_there;
      target_there = needs.1;
      in_range = needs.3;
      sent = omega arith;
      taken = omega arith;
      replied = s.replied;
      reaped = s.reaped;
      quiet = λ at_rest. absurd (let e : true ≡ false = at_rest in cc);
    }

-- on its way, and then taken
after_take : (cpus : ℕ) (msg : Message) (o t cpu : CpuId) (round : ℕ) → IsSafeMessage cpus (owned msg (Out o t)) → IsSafeMessage cpus (message_after (owned msg (Out o t)) (TakeMsg cpu (record { 0 = 0 }) round))
after_take cpus msg o t cpu round s =
    let counted : msg.takes + msg.drops + 1 ≡ msg.sends = s.taken in
    let answered : msg.replies + 0 ≡ msg.takes = s.replied in
    record {
      home = s.home;
      origin_there = s.origin_there;
      target_there = s.target_there;
      in_range = s.in_range;
      sent = s.sent;
      taken = omega arith;
      replied = omega arith;
      reaped = s.reaped;
      quiet = λ at_rest. absurd (let e : true ≡ false = at_rest in cc);
    }

-- on its way, and then taken back
after_drop : (cpus : ℕ) (msg : Message) (o t cpu : CpuId) → IsSafeMessage cpus (owned msg (Out o t)) → o ≡ cpu → IsSafeMessage cpus (message_after (owned msg (Out o t)) (DropMsg cpu (record { 0 = 0 })))
after_drop cpus msg o t cpu s same =
    let counted : msg.takes + msg.drops + 1 ≡ msg.sends = s.taken in
    record {
      home = sym same ∙ s.home;
      origin_there = s.origin_there;
      target_there = tt;
      in_range = s.in_range;
      sent = s.sent;
      taken = omega arith;
      replied = s.replied;
      reaped = s.reaped;
      quiet = λ _. refl;
    }

-- taken, and then replied to
after_reply : (cpus : ℕ) (msg : Message) (o t cpu : CpuId) → IsSafeMessage cpus (owned msg (With o t)) → IsSafeMessage cpus (message_after (owned msg (With o t)) (Reply cpu (record { 0 = 0 })))
after_reply cpus msg o t cpu s =
    let answered : msg.replies + 1 ≡ msg.takes = s.replied in
    let returned : msg.reaps + 0 ≡ msg.replies = s.reaped in
    record {
      home = s.home;
      origin_there = s.origin_there;
      target_there = s.target_there;
      in_range = s.in_range;
      sent = s.sent;
      taken = s.taken;
      replied = omega arith;
      reaped = omega arith;
      quiet = λ at_rest. absurd (let e : true ≡ false = at_rest in cc);
    }

-- replied to, and then at rest again
after_reap : (cpus : ℕ) (msg : Message) (o t cpu : CpuId) → IsSafeMessage cpus (owned msg (Back o t)) → o ≡ cpu → IsSafeMessage cpus (message_after (owned msg (Back o t)) (Reap cpu (record { 0 = 0 })))
after_reap cpus msg o t cpu s same =
    let returned : msg.reaps + 1 ≡ msg.replies = s.reaped in
    record {
      home = sym same ∙ s.home;
      origin_there = s.origin_there;
      target_there = tt;
      in_range = s.in_range;
      sent = s.sent;
      taken = s.taken;
      replied = s.replied;
      reaped = omega arith;
      quiet = λ _. refl;
    }

-- away, and asked to be aborted
after_abort : (cpus : ℕ) (msg : Message) (o : Owner) → IsSafeMessage cpus (owned msg o) → is_away o ≡ true → IsSafeMessage cpus (record (owned msg o) { asked = true })
after_abort cpus msg o s away = record {
  home = s.home;
  origin_there = s.origin_there;
  target_there = s.target_there;
  in_range = s.in_range;
  sent = s.sent;
  taken = s.taken;
  replied = s.replied;
  reaped = s.reaped;
  quiet = λ at_rest. absurd (let e : true ≡ false = sym away ∙ at_rest in cc);
}

-- an event keeps a message of each owner safe
after_owned : (cpus : ℕ) (msg : Message) (o : Owner) (e : Event) → IsSafeMessage cpus (owned msg o) → MessageNeeds cpus (owned msg o) e → IsSafeMessage cpus (message_after (owned msg o) e)
after_owned cpus msg (Rest o) (Send cpu m to round) s needs = after_send cpus msg o cpu to round s needs
after_owned cpus msg (Out o t) (Send cpu m to round) s needs = absurd (let e : Out o t ≡ Rest cpu = needs.0 in cc)
after_owned cpus msg (With o t) (Send cpu m to round) s needs = absurd (let e : With o t ≡ Rest cpu = needs.0 in cc)
after_owned cpus msg (Back o t) (Send cpu m to round) s needs = absurd (let e : Back o t ≡ Rest cpu = needs.0 in cc)
after_owned cpus msg (Rest o) (TakeMsg cpu m round) s needs = absurd needs.0
after_owned cpus msg (Out o t) (TakeMsg cpu m round) s needs = after_take cpus msg o t cpu round s
after_owned cpus msg (With o t) (TakeMsg cpu m round) s needs = absurd needs.0
after_owned cpus msg (Back o t) (TakeMsg cpu m round) s needs = absurd needs.0
after_owned cpus msg (Rest o) (DropMsg cpu m) s needs = absurd needs
after_owned cpus msg (Out o t) (DropMsg cpu m) s needs = after_drop cpus msg o t cpu s needs
after_owned cpus msg (With o t) (DropMsg cpu m) s needs = absurd needs
after_owned cpus msg (Back o t) (DropMsg cpu m) s needs = absurd needs
after_owned cpus msg (Rest o) (Reply cpu m) s needs = absurd needs
after_owned cpus msg (Out o t) (Reply cpu m) s needs = absurd needs
after_owned cpus msg (With o t) (Reply cpu m) s needs = after_reply cpus msg o t cpu s
after_owned cpus msg (Back o t) (Reply cpu m) s needs = absurd needs
after_owned cpus msg (Rest o) (Reap cpu m) s needs = absurd needs
after_owned cpus msg (Out o t) (Reap cpu m) s needs = absurd needs
after_owned cpus msg (With o t) (Reap cpu m) s needs = absurd needs
after_owned cpus msg (Back o t) (Reap cpu m) s needs = after_reap cpus msg o t cpu s needs
after_owned cpus msg o (Abort cpu m) s needs = after_abort cpus msg o s needs.1
after_owned cpus msg o (Load cpu tok) s needs = absurd needs
after_owned cpus msg o (Take cpu tok) s needs = absurd needs
after_owned cpus msg o (Share cpu tok) s needs = absurd needs
after_owned cpus msg o (Again cpu tok) s needs = absurd needs
after_owned cpus msg o (Mark cpu tok) s needs = absurd needs
after_owned cpus msg o (GiveOne cpu tok) s needs = absurd needs
after_owned cpus msg o (GiveClean cpu tok) s needs = absurd needs
after_owned cpus msg o (GiveWritten cpu tok section) s needs = absurd needs
after_owned cpus msg o (Read cpu tok cell value) s needs = absurd needs
after_owned cpus msg o (Write cpu tok cell value) s needs = absurd needs
after_owned cpus msg o (ReadBlob cpu tok blob) s needs = absurd needs
after_owned cpus msg o (WriteBlob cpu tok blob) s needs = absurd needs

-- an event that can happen to a safe message leaves it safe
pub IsSafeMessage-after : (cpus : ℕ) (msg : Message) (e : Event) → IsSafeMessage cpus msg → MessageNeeds cpus msg e → cpu_of e < cpus → IsSafeMessage cpus (message_after msg e)
IsSafeMessage-after cpus msg e safe needs there = after_owned cpus msg msg.owner e safe needs

-- a message is safe at an opening that keeps the limits
pub IsSafeMessage-opened : (cpus : ℕ) (spec : MsgSpec) → IsMessageWithin cpus spec → IsSafeMessage cpus (opened_message spec)
IsSafeMessage-opened cpus spec within = record {
  home = refl;
  origin_there = within.0;
  target_there = tt;
  in_range = within.2;
  sent = add-zero spec.round;
  taken = refl;
  replied = refl;
  reaped = refl;
  quiet = λ _. refl;
}
