-- Networks that allow no restamp: their histories have none, and an Act is judged by the one epoch of its packet.
use Rattle.std.proofs.Common.{◌≡◌, ◌≢◌, ℕ, ◌-◌, List, [], ◌∷◌, length, Option, Some, None, Bool, true, false, cond, eqb, eq-eqb, refl, sym, ap, ◌∙◌, subst, arith}
use Rattle.std.specs.Prelude.{Result, Ok, Err, reverse, not, nat_lt, unwrap_or, option_map}
use Rattle.std.proofs.lemmas.List.{length_push}
use Rattle.std.proofs.lemmas.Option.{none-some, same_Some}
use Rattle.std.proofs.lemmas.Bool.{eqb-true}
use Rattle.ir_core.specs.declared.event.Action.TheVariants.{Restamp}
use Rattle.ir_core.specs.declared.event.Refused.{Refused}
use Rattle.ir_core.specs.declared.event.Refused.TheVariants.{NoNode}
use Rattle.ir_core.specs.declared.event.Ruling.{Ruling}
use Rattle.ir_core.specs.declared.event.Verdict.{Verdict}
use Rattle.ir_core.specs.declared.event.Verdict.TheVariants.{CameByDown, BelowFloor, Arrives, LeavesByDown, NoRoom, GoesOn}
use Rattle.ir_core.specs.declared.event.Way.{Way}
use Rattle.ir_core.specs.declared.packet.Held.{Held}
use Rattle.ir_core.specs.declared.packet.Restamp.{Restamp as Stamped}
use Rattle.ir_core.specs.Record.{Record, stamp_in, stamp_of}
use Rattle.ir_core.specs.Setting.{Setting, nodes_of}
use Rattle.ir_core.specs.Entry.{Entry, DidInject, DidLearn, DidTake, DidRead, DidAct, DidChange, DidInstall, action_of, restamp_by, ruled, fresh}
use Rattle.ir_core.specs.History as history
use Rattle.ir_core.specs.Meaning.{Sight, sight_after, record_at, board_at, verdict_on, ruling_by, acts_on}
use Rattle.ir_core.specs.Sound.{AllOfOneEpoch}
use Rattle.ir_core.specs.Plain.{HasNoRestamp, IsPlainVerdict, IsPlainAct, acts_once_on}

-- with no restamp allowed a ruling is a verdict
no_restamp : (v : Verdict) (current left : ℕ) → left ≡ 0 → restamp_by left current v ≡ None
no_restamp BelowFloor current left e = rw e refl
no_restamp (CameByDown l) current left e = refl
no_restamp Arrives current left e = refl
no_restamp (LeavesByDown l) current left e = refl
no_restamp (NoRoom h) current left e = refl
no_restamp (GoesOn h) current left e = refl

pub plain_verdict : (o : Setting) (s : Sight) (u : ℕ) (way : Way) (r : Record) → IsPlainVerdict o s u way r
plain_verdict o s u way r limit none =
    let e : stamp_of r ≡ r.epoch = ap (λ (l : List Stamped). stamp_in (reverse l) r.epoch) none in
    let v = verdict_on o s u way (stamp_of r) r.dest in
    ap (λ (x : Option ℕ). ruling_by o s u r.dest v x) (no_restamp v (board_at s (s.view u)).current (o.restamps - length r.restamps) (omega arith))
    ∙ ap (λ (stamp : ℕ). record { restamp = None; verdict = verdict_on o s u way stamp r.dest }) e

-- and no packet has to be restamped
pub never_restamped : (port : ℕ) (v : Verdict) → action_of 0 port v ≢ Restamp
never_restamped port (CameByDown l) e = cc
never_restamped port BelowFloor e = cc
never_restamped port Arrives e = cc
never_restamped port (LeavesByDown l) e = cc
never_restamped port (NoRoom h) e = cc
never_restamped port (GoesOn h) e = cc

-- a packet, if there is one, was not restamped
record IsPlain (x : Option Record) : Type 0 where
  none : (r : Record) → x ≡ Some r → r.restamps ≡ []

plain_either : (b : Bool) (x y : Option Record) → IsPlain x → IsPlain y → IsPlain (cond b x y)
plain_either true x y p q = p
plain_either false x y p q = q

plain_fresh : (id epoch source dest room : ℕ) → IsPlain (Some (fresh id epoch source dest room))
plain_fresh id epoch source dest room = record { none = λ r e. ap (λ (x : Record). x.restamps) (sym (same_Some (fresh id epoch source dest room) r e)) }

plain_ruled : (u : ℕ) (way : Way) (v : Verdict) (x : Option Record) → IsPlain x → IsPlain (option_map (ruled u way None v) x)
plain_ruled u way v None p = record { none = λ r e. absurd (none-some r e) }
plain_ruled u way v (Some r) p =
    record { none = λ s e. ap (λ (x : Record). x.restamps) (sym (same_Some (ruled u way None v r) s e)) ∙ p.none r refl }

-- the packets of a history without restamps
packet_plain : (id : ℕ) (log : List Entry) → HasNoRestamp log → IsPlain (history.packet id log)
packet_plain id [] h = record { none = λ r e. absurd (none-some r e) }
packet_plain id (DidInject i e s d m ∷ log) h = plain_either (eqb i id) (Some (fresh i e s d m)) (history.packet id log) (plain_fresh i e s d m) (packet_plain id log h)
packet_plain id (DidAct u i way restamp v ∷ log) h =
    subst (λ (x : Option ℕ). IsPlain (cond (eqb i id) (option_map (ruled u way x v) (history.packet id log)) (history.packet id log))) (sym h.0)
    (plain_either (eqb i id) (option_map (ruled u way None v) (history.packet id log)) (history.packet id log) (plain_ruled u way v (history.packet id log) (packet_plain id log h.1)) (packet_plain id log h.1))
packet_plain id (DidLearn e ∷ log) h = packet_plain id log h
packet_plain id (DidTake u way i ∷ log) h = packet_plain id log h
packet_plain id (DidRead u k ∷ log) h = packet_plain id log h
packet_plain id (DidChange b ∷ log) h = packet_plain id log h
packet_plain id (DidInstall e t b ∷ log) h = packet_plain id log h

plain_or : (id : ℕ) (x : Option Record) → IsPlain x → (unwrap_or x (fresh id 0 0 0 0)).restamps ≡ []
plain_or id None p = refl
plain_or id (Some r) p = p.none r refl

act_plain : (o : Setting) (s : Sight) (u : ℕ) (x : Option Held) → o.restamps ≡ 0 → ((held : Held) → (record_at s held.id).restamps ≡ []) → acts_on o s u x ≡ acts_once_on o s u x
act_plain o s u None none plain = refl
act_plain o s u (Some held) none plain =
    ap (λ (x : Ruling). Ok (DidAct u held.id held.way x.restamp x.verdict)) (plain_verdict o s u held.way (record_at s held.id) none (plain held))

pub plain_act : (o : Setting) (log : List Entry) (u : ℕ) → IsPlainAct o log u
plain_act o log u none h =
    let s = sight_after o log in
    ap (λ (x : Result Entry Refused). cond (not (nat_lt u (nodes_of o))) (Err NoNode) x) (act_plain o s u (s.hand u) none (λ held. plain_or held.id (history.packet held.id log) (packet_plain held.id log h)))

-- A history whose packets were not restamped has no restamp.
act_was_plain : (u i : ℕ) (way : Way) (restamp : Option ℕ) (v : Verdict) (x : Option Record) (r : Record) → x ≡ Some r → IsPlain (option_map (ruled u way restamp v) x) → restamp ≡ None
act_was_plain u i way None v x r is p = refl
act_was_plain u i way (Some e) v x r is p =
    let made = ruled u way (Some e) v r in
    let here : option_map (ruled u way (Some e) v) x ≡ Some made = ap (λ (y : Option Record). option_map (ruled u way (Some e) v) y) is in
    let short = ap (λ (l : List Stamped). length l) (p.none made here) in
    absurd (omega (arith, short, length_push {X = Stamped}))

before_inject : (b : Bool) (x y : Option Record) → (b ≡ true → y ≡ None) → IsPlain (cond b x y) → IsPlain y
before_inject true x y none p = record { none = λ r e. absurd (none-some r (sym (none refl) ∙ e)) }
before_inject false x y none p = p

before_act : (u : ℕ) (way : Way) (v : Verdict) (b : Bool) (x : Option Record) → IsPlain (cond b (option_map (ruled u way None v) x) x) → IsPlain x
before_act u way v false x p = p
before_act u way v true None p = record { none = λ r e. absurd (none-some r e) }
before_act u way v true (Some r) p =
    record { none = λ s e. ap (λ (x : Record). x.restamps) (sym (same_Some r s e)) ∙ p.none (ruled u way None v r) refl }

acted_here : (id : ℕ) (x y : Option Record) → IsPlain (cond (eqb id id) x y) → IsPlain x
acted_here id x y p = subst (λ (b : Bool). IsPlain (cond b x y)) (eq-eqb id id refl) p

plain_history : (log : List Entry) → history.NothingAfterTheEnd log → ((id : ℕ) → IsPlain (history.packet id log)) → HasNoRestamp log
plain_history [] ends all = tt
plain_history (DidInject i e s d m ∷ log) ends all =
    plain_history log ends.1
    (λ id. before_inject (eqb i id) (Some (fresh i e s d m)) (history.packet id log) (λ same. (ap (λ (k : ℕ). history.packet k log) (sym (eqb-true i id same)) ∙ ends.0)) (all id))
plain_history (DidAct u i way restamp v ∷ log) ends all =
    let now = history.packet i log in
    let none : restamp ≡ None = act_was_plain u i way restamp v now ends.0.0 ends.0.1 (acted_here i (option_map (ruled u way restamp v) now) now (all i)) in (
      none,
      plain_history log ends.1
          (λ id. before_act u way v (eqb i id) (history.packet id log)
          (subst (λ (x : Option ℕ). IsPlain (cond (eqb i id) (option_map (ruled u way x v) (history.packet id log)) (history.packet id log))) none (all id))),
    )
plain_history (DidLearn e ∷ log) ends all = plain_history log ends.1 all
plain_history (DidTake u way i ∷ log) ends all = plain_history log ends.1 all
plain_history (DidRead u k ∷ log) ends all = plain_history log ends.1 all
plain_history (DidChange b ∷ log) ends all = plain_history log ends.1 all
plain_history (DidInstall e t b ∷ log) ends all = plain_history log ends.1 all

pub never_in : (o : Setting) (log : List Entry) → history.NothingAfterTheEnd log → AllOfOneEpoch o log → HasNoRestamp log
never_in o log ends all = plain_history log ends (λ id. record { none = λ r e. (all id r e).0 })
