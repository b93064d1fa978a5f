-- Calls that pass one list after another to a visitor.
use Rattle.pawn_book.proofs.Reading.{reads_as, reads_none, reads_then}
use Rattle.pawn_book.proofs.SheetLemmas.{handed-append, windows_begin, windows_more}
use Rattle.pawn_table_keeper.proofs.Walks.{errs_ok}
use Rattle.pawn_table_keeper.specs.Common.{flat_map, Host, Errs, Keeping, Reads, windows, windows_below, Handed}
use Rattle.pawn_table_keeper.specs.Common.{HandsOver, IsShare, Visits, Whole, call_end, KeepError, NoRecord, Flow, Go}
use Rattle.pawn_table_keeper.specs.Common.{Stop}
use Rattle.pawn_table_keeper.specs.Handing.{HandsRows, flow_of}
use Rattle.std.proofs.Common.{◌≡◌, ◌++◌, ℕ, suc, ◌+◌, ◌-◌, ◌<◌, ◌≤◌, List, [], ◌∷◌, length, length-append, Result, Ok}
use Rattle.std.proofs.Common.{Err, inl, inr, refl, sym, ap, subst, ◌∙◌, append_assoc, append-nil, arith, IfErr}
use Rattle.pawn_book.specs.declared.fault.KeepError.TheVariants as Keeper

-- the errors of a call after a read
pub errs_after : {K A : Type 0} {IsUnsound : Host → Type 0} (k : Keeping K) (a b c : K) {P Q : Host → Type 0} (r : Result A KeepError) → Reads k a b P
    → Reads k b c Q → Errs k b c IsUnsound r → Errs k a c IsUnsound r
errs_after k a b c r before then errs = record {
  never = λ steady. errs.never (before.on.stays steady);
  no_record = λ is honest h at. errs.no_record is honest h (before.same (then.on.was_honest honest) h at);
}

-- an error that is passed on
pub errs_as : {K A B : Type 0} {IsUnsound : Host → Type 0} (k : Keeping K) (a b : K) (r : Result A KeepError) (s : Result B KeepError) (e : KeepError)
    → r ≡ Err e → s ≡ Err e → Errs k a b IsUnsound r → Errs k a b IsUnsound s
errs_as k a b r s e is same errs = record {
  never = λ steady. subst (λ x. IfErr x (λ f. f ≡ Keeper.Memory)) (sym same) (subst (λ x. IfErr x (λ f. f ≡ Keeper.Memory)) is (errs.never steady));
  no_record = λ bad. errs.no_record (is ∙ ap Err (let x = sym same ∙ bad in cc));
}

module _ {K V T : Type 0} (k : Keeping K) (step : V → T → Flow → V → Type 0) where
  hands_rows : {IsUnsound : Host → Type 0} {a b : K} {v w : V} {r : Result Flow KeepError} {xs : Host → List T} (given : List T) → Handed step v given
      (flow_of r) w → Reads k a b (λ h. IsShare given (flow_of r) (call_end r) (xs h)) → Errs k a b IsUnsound r → HandsRows k IsUnsound step a b v w r xs
  hands_rows given handed reads errs = record { given = given; handed = handed; reads = reads; errs = errs }

  -- the same items, in other words
  pub hands_as : {IsUnsound : Host → Type 0} (a b : K) (v w : V) (r : Result Flow KeepError) (xs ys : Host → List T) → ((h : Host) → xs h ≡ ys h)
      → HandsRows k IsUnsound step a b v w r xs → HandsRows k IsUnsound step a b v w r ys
  hands_as a b v w r xs ys same hands =
      hands_rows hands.given hands.handed (reads_as hands.reads (λ h share. subst (IsShare hands.given (flow_of r) (call_end r)) (same h) share)) hands.errs

  -- after a read that returns them
  pub hands_after : {IsUnsound : Host → Type 0} (a b c : K) (v w : V) (r : Result Flow KeepError) (xs ys : Host → List T) {P : Host → Type 0} → Reads k a b P
      → ((h : Host) → P h → xs h ≡ ys h) → HandsRows k IsUnsound step b c v w r xs → HandsRows k IsUnsound step a c v w r ys
  hands_after a b c v w r xs ys before same hands = hands_rows hands.given hands.handed (reads_then before hands.reads
      (λ h p share. subst (IsShare hands.given (flow_of r) (call_end r)) (same h p) share)) (errs_after k a b c r before hands.reads hands.errs)

  -- there is nothing to pass
  pub hands_nothing : {IsUnsound : Host → Type 0} (a b : K) (v : V) (xs : Host → List T) {P : Host → Type 0} → Reads k a b P → ((h : Host) → P h → xs h ≡ [])
      → HandsRows k IsUnsound step a b v v (Ok Go) xs
  hands_nothing a b v xs read none = hands_rows [] (refl, refl) (reads_as read (λ h p. ([], sym (none h p), λ go whole. refl))) (errs_ok k a b (Ok Go) Go refl)

  -- one item
  pub hands_item : {IsUnsound : Host → Type 0} (a : K) (v w : V) (x : T) (flow : Flow) → step v x flow w
      → HandsRows k IsUnsound step a a v w (Ok flow) (λ h. x ∷ [])
  hands_item a v w x Go here =
      hands_rows (x ∷ []) (inl (w, here, (refl, refl))) (reads_none k a _ (λ h. ([], refl, λ go whole. refl))) (errs_ok k a a (Ok Go) Go refl)
  hands_item a v w x Stop here =
      hands_rows (x ∷ []) (inr (refl, refl, here)) (reads_none k a _ (λ h. ([], refl, λ go whole. refl))) (errs_ok k a a (Ok Stop) Stop refl)

  -- items that are known
  pub hands_over : {IsUnsound : Host → Type 0} (a : K) (v w : V) (xs : List T) (flow : Flow) → HandsOver step v xs flow w
      → HandsRows k IsUnsound step a a v w (Ok flow) (λ h. xs)
  hands_over a v w xs flow here = hands_rows here.0 here.1 (reads_none k a _ (λ h. here.2)) (errs_ok k a a (Ok flow) flow refl)

  -- a read fails before the visitor gets anything
  pub hands_unread : {IsUnsound : Host → Type 0} {A : Type 0} (a b : K) (v : V) (r : Result A KeepError) (s : Result Flow KeepError) (e : KeepError)
      (xs : Host → List T) {P : Host → Type 0} → r ≡ Err e → s ≡ Err e → Reads k a b P → Errs k a b IsUnsound r → HandsRows k IsUnsound step a b v v s xs
  hands_unread {IsUnsound = IsUnsound} a b v r s e xs is same read errs = subst (λ t. HandsRows k IsUnsound step a b v v t xs) (sym same)
      (hands_rows [] (refl, refl) (reads_as read (λ h p. (xs h, refl, λ go whole. cc whole))) (errs_as k a b r (Err e) e is refl errs))

  -- one list and then another
  pub hands_then : {IsUnsound : Host → Type 0} (a b c : K) (v u w : V) (r : Result Flow KeepError) (xs ys : Host → List T)
      → HandsRows k IsUnsound step a b v u (Ok Go) xs → HandsRows k IsUnsound step b c u w r ys → HandsRows k IsUnsound step a c v w r (λ h. xs h ++ ys h)
  hands_then a b c v u w r xs ys first then = record {
    given = first.given ++ then.given;
    handed = handed-append step v u w first.given then.given (flow_of r) first.handed then.handed;
    reads = reads_then first.reads then.reads (λ h one two.
        let all : first.given ≡ xs h = sym (append-nil first.given) ∙ ap (λ t. first.given ++ t) (sym (one.2 refl refl)) ∙ one.1 in
        (two.0, append_assoc first.given then.given two.0 ∙ ap (λ t. first.given ++ t) two.1 ∙ ap (λ t. t ++ ys h) all, two.2));
    errs = errs_after k a b c r first.reads then.reads then.errs;
  }

  -- it stopped in the first list, or the call fails there: it gets nothing of the next
  pub hands_ended : {IsUnsound : Host → Type 0} (a b : K) (v w : V) (r s : Result Flow KeepError) (xs ys : Host → List T) → (r ≡ Ok Go → ⊥) → s ≡ r
      → HandsRows k IsUnsound step a b v w r xs → HandsRows k IsUnsound step a b v w s (λ h. xs h ++ ys h)
  hands_ended {IsUnsound = IsUnsound} a b v w r s xs ys ended same first =
      subst (λ t. HandsRows k IsUnsound step a b v w t (λ h. xs h ++ ys h)) (sym same) (hands_rows first.given first.handed (reads_as first.reads
      (λ h share. (share.0 ++ ys h, sym (append_assoc first.given share.0 (ys h)) ∙ ap (λ t. t ++ ys h) share.1, none r ended))) first.errs) where
        none : {left : List T} (t : Result Flow KeepError) → (t ≡ Ok Go → ⊥) → flow_of t ≡ Go → call_end t ≡ Whole → left ≡ []
        none (Ok flow) ended' go whole = absurd (ended' (ap Ok go))
        none (Err e) ended' go whole = cc whole

  -- what was given is all that the visitor got
  pub visits_of : {IsUnsound : Host → Type 0} {A : Type 0} (a b : K) (v w : V) (r : Result Flow KeepError) (s : Result A KeepError) (xs : Host → List T)
      → call_end s ≡ call_end r → HandsRows k IsUnsound step a b v w r xs
      → Visits step v w (λ given flow. Reads k a b (λ h. IsShare given flow (call_end s) (xs h)))
  visits_of a b v w r s xs same hands =
      (hands.given, flow_of r, hands.handed, reads_as hands.reads (λ h share. subst (λ end. IsShare hands.given (flow_of r) end (xs h)) (sym same) share))

  -- ---- page by page

  module _ (listed : Host → List T) (past : ℕ → Host → List T) where
    -- the visitor got the items up to one, at least one in each of so many turns, and asks for more
    abbrev pub HandedTo : K → K → V → V → ℕ → ℕ → Type 0
    HandedTo old now v u n turns = (given : List T) × Handed step v given Go u × Reads k old now (λ h. given ++ past n h ≡ listed h) × (turns ≤ length given)

    pub begins_at : (s : K) (v : V) → ((h : Host) → past 0 h ≡ listed h) → HandedTo s s v v 0 0
    begins_at s v whole = ([], (refl, refl), reads_none k s (λ h. past 0 h ≡ listed h) whole, omega arith)

    -- a page was read, which begins after one number and ends at another, and the visitor got it
    module _ (old now new : K) (v u w : V) (n m turns : ℕ) (before : HandedTo old now v u n turns) (xs : List T) {Short : Type 0}
        (read : Reads k now new (λ h. (past n h ≡ xs ++ past m h) × (Short → past m h ≡ []))) where
      all_given : (here : HandsOver step u xs Go w) → here.0 ≡ xs
      all_given here = sym (append-nil here.0) ∙ ap (λ t. here.0 ++ t) (sym (here.2.2 refl refl)) ∙ here.2.1

      -- more is left
      pub goes_by : 1 ≤ length xs → HandsOver step u xs Go w → HandedTo old new v w m (turns + 1)
      goes_by some here = let both = length-append before.0 here.0 in
          let these : length here.0 ≡ length xs = ap length (all_given here) in
          let so_far = before.3 in (
            before.0 ++ here.0,
            handed-append step v u w before.0 here.0 Go before.1 here.1,
            reads_then before.2 read
                (λ h are told. append_assoc before.0 here.0 (past m h) ∙ ap (λ t. before.0 ++ t) (ap (λ t. t ++ past m h) (all_given here) ∙ sym told.0) ∙ are),
            omega (arith, some, both, these, so_far),
          )

      -- it is the last
      pub ends_by : {IsUnsound : Host → Type 0} → Short → HandsOver step u xs Go w → HandsRows k IsUnsound step old new v w (Ok Go) listed
      ends_by short here = record {
        given = before.0 ++ here.0;
        handed = handed-append step v u w before.0 here.0 Go before.1 here.1;
        reads = reads_then before.2 read (λ h are told. (
          [],
          append-nil (before.0 ++ here.0) ∙ ap (λ t. before.0 ++ t) (all_given here ∙ sym (append-nil xs) ∙ ap (λ t. xs ++ t) (sym (told.1 short)) ∙ sym told.0)
              ∙ are,
          λ go whole. refl,
        ));
        errs = errs_ok k old new (Ok Go) Go refl;
      }

      -- the visitor stops in it
      pub stops_by : {IsUnsound : Host → Type 0} → HandsOver step u xs Stop w → HandsRows k IsUnsound step old new v w (Ok Stop) listed
      stops_by here = record {
        given = before.0 ++ here.0;
        handed = handed-append step v u w before.0 here.0 Stop before.1 here.1;
        reads = reads_then before.2 read (λ h are told. (
          here.2.0 ++ past m h,
          append_assoc before.0 here.0 (here.2.0 ++ past m h)
              ∙ ap (λ t. before.0 ++ t) (sym (append_assoc here.0 here.2.0 (past m h)) ∙ ap (λ t. t ++ past m h) here.2.1 ∙ sym told.0) ∙ are,
          λ go. cc go,
        ));
        errs = errs_ok k old new (Ok Stop) Stop refl;
      }

    -- the call errs
    pub fails_at : {IsUnsound : Host → Type 0} {A : Type 0} {P : Host → Type 0} (old now new : K) (v u : V) (n turns : ℕ)
        (before : HandedTo old now v u n turns) (r : Result A KeepError) (s : Result Flow KeepError) (e : KeepError) → r ≡ Err e → s ≡ Err e → Reads k now new P
        → Errs k now new IsUnsound r → HandsRows k IsUnsound step old new v u s listed
    fails_at {IsUnsound = IsUnsound} old now new v u n turns before r s e is same read errs =
        subst (λ t. HandsRows k IsUnsound step old new v u t listed) (sym same) (hands_rows before.0 before.1 (reads_then before.2 read
        (λ h are p. (past n h, are, λ go whole. cc whole))) (errs_after k old now new (Err e) before.2 read (errs_as k now new r (Err e) e is refl errs)))

    -- the visitor got more than a host has that is sound in this way
    pub handed_past : {IsUnsound : Host → Type 0} (most : ℕ) → ((h : Host) → most < length (listed h) → IsUnsound h) → (old now : K) (v u : V) (n turns : ℕ)
        → (k.steady old → ⊥) → HandedTo old now v u n turns → most < turns → HandsRows k IsUnsound step old now v u (Err (Keeper.Store NoRecord)) listed
    handed_past most unsound old now v u n turns may before above = record {
      given = before.0;
      handed = before.1;
      reads = reads_as before.2 (λ h are. (past n h, are, λ go whole. cc whole));
      errs = record {
        never = λ steady. absurd (may steady);
        no_record = λ bad honest h at.
            let both = sym (length-append before.0 (past n h)) ∙ ap length (before.2.states honest h at) in let so_far = before.3 in
            unsound h (omega (arith, above, both, so_far));
      };
    }

  -- ---- window by window

  module _ {IsUnsound : Host → Type 0} (f : Host → ℕ → List T) (a b c : K) (v u w : V) (n : ℕ)
      (before : HandsRows k IsUnsound step a b v u (Ok Go) (λ h. flat_map (f h) (windows_below n))) where
    pub windows_go : HandsRows k IsUnsound step b c u w (Ok Go) (λ h. f h n)
        → HandsRows k IsUnsound step a c v w (Ok Go) (λ h. flat_map (f h) (windows_below (n + 1)))
    windows_go here = let next : suc n ≡ n + 1 = omega arith in
        hands_as a c v w (Ok Go) (λ h. flat_map (f h) (windows_below n) ++ f h n) (λ h. flat_map (f h) (windows_below (n + 1))) (λ h. sym (windows_more (f h) n)
        ∙ ap (λ m. flat_map (f h) (windows_below m)) next) (hands_then a b c v u w (Ok Go) (λ h. flat_map (f h) (windows_below n)) (λ h. f h n) before here)

    -- it stopped in one, or the call errs there
    pub windows_end : (r s : Result Flow KeepError) → n < 16 → (r ≡ Ok Go → ⊥) → s ≡ r → HandsRows k IsUnsound step b c u w r (λ h. f h n)
        → HandsRows k IsUnsound step a c v w s (λ h. flat_map (f h) windows)
    windows_end r s few ended same here = let left : (16 - suc n) + suc n ≡ 16 = omega (arith, few) in
        let rest : (h : Host) → (ys : List T) × (flat_map (f h) (windows_below ((16 - suc n) + suc n)) ≡ flat_map (f h) (windows_below (suc n)) ++ ys) =
        λ h. windows_begin (f h) (suc n) (16 - suc n) in
        hands_as a c v w s (λ h. (flat_map (f h) (windows_below n) ++ f h n) ++ (rest h).0) (λ h. flat_map (f h) windows) (λ h. ap (λ xs. xs ++ (rest h).0)
        (sym (windows_more (f h) n)) ∙ sym (rest h).1 ∙ ap (λ m. flat_map (f h) (windows_below m)) left) (hands_ended a c v w r s (λ h. flat_map (f h)
        (windows_below n) ++ f h n) (λ h. (rest h).0) ended same (hands_then a b c v u w r (λ h. flat_map (f h) (windows_below n)) (λ h. f h n) before here))
