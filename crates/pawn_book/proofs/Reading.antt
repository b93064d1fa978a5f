-- One read of a keeper after another.
use Rattle.pawn_book.specs.HostStep.{Host}
use Rattle.pawn_book.specs.Keeping.{GoesOn, Keeping, Reads}
use Rattle.std.proofs.Common.{◌≡◌, subst, Ok, Result, IfOk}

-- `GoesOn` of one call and of the next give `GoesOn` of both together
pub on_then : {K : Type 0} {k : Keeping K} {a b c : K} → GoesOn k a b → GoesOn k b c → GoesOn k a c
on_then f s = record {
  was_honest = λ honest. f.was_honest (s.was_honest honest);
  was_usable = λ honest now. f.was_usable (s.was_honest honest) (s.was_usable honest now);
  stays = λ steady. s.stays (f.stays steady);
  whole = λ honest whole. s.whole honest (f.whole (s.was_honest honest) whole);
}

-- a keeper that was not asked is as it was
pub reads_none : {K : Type 0} (k : Keeping K) (s : K) (P : Host → Type 0) → ((h : Host) → P h) → Reads k s s P
reads_none k s P all = record {
  on = record { was_honest = λ honest. honest; was_usable = λ honest now. now; stays = λ steady. steady; whole = λ honest whole. whole };
  same = λ honest h at. at;
  back = λ honest now h at. at;
  states = λ honest h at. all h;
  crash = λ honest left at. at;
}

-- the facts of two reads hold of both together
pub reads_then : {K : Type 0} {k : Keeping K} {a b c : K} {P Q R : Host → Type 0}
    → Reads k a b P → Reads k b c Q → ((h : Host) → P h → Q h → R h) → Reads k a c R
reads_then f s both = record {
  on = on_then f.on s.on;
  same = λ honest h at. s.same honest h (f.same (s.on.was_honest honest) h at);
  back = λ honest now h at. f.back (s.on.was_honest honest) (s.on.was_usable honest now) h (s.back honest now h at);
  states = λ honest h at. both h (f.states (s.on.was_honest honest) h at) (s.states honest h (f.same (s.on.was_honest honest) h at));
  crash = λ honest h left. f.crash (s.on.was_honest honest) h (s.crash honest h left);
}

-- a fact of a read, replaced by one that follows from it
pub reads_as : {K : Type 0} {k : Keeping K} {a b : K} {P Q : Host → Type 0} → Reads k a b P → ((h : Host) → P h → Q h) → Reads k a b Q
reads_as f as_q = record { on = f.on; same = f.same; back = f.back; states = λ honest h at. as_q h (f.states honest h at); crash = f.crash }

-- the value of an `Ok` is the one that was stated of it
pub ok_is : {T E : Type 0} {r : Result T E} {v x : T} → r ≡ Ok v → IfOk r (λ p. p ≡ x) → v ≡ x
ok_is {T = T} {E = E} {v = v} {x = x} is told = let P : Result T E → Type 0 = λ r. IfOk r (λ p. p ≡ x) in subst P is told

pub reads_both : {K : Type 0} {k : Keeping K} {a b c : K} {P Q : Host → Type 0} → Reads k a b P → Reads k b c Q → Reads k a c (λ h. P h × Q h)
reads_both f s = reads_then f s (λ h p q. (p, q))
