-- The routes.
use Rattle.matchit.specs.Route.{Scan, parse_route}
use Rattle.matchit.specs.Router.{InsertsRead}
use Rattle.matchit.specs.declared.error.InsertError.{InsertError}
use Rattle.pawn_wire.specs.Common.{Bor, IsAscii, Shows, part_of, walk}
use Rattle.pawn_wire.specs.Route.{Rows, plain, with_route, with_routes}
use Rattle.pawn_wire.specs.Types.{Endpoint}
use Rattle.std.proofs.Common.{◌≡◌, ℕ, ◌+◌, ◌<◌, List, [], ◌∷◌, ◌++◌, length, map, take, get_or, refl, sym, ap, ◌∙◌}
use Rattle.std.proofs.Common.{subst, Result, Ok, Err, ◌&&◌, cond, Bool, true, false, ◌-◌, drop, leb, All, Some}
use Rattle.std.proofs.Common.{slice_get}
use Rattle.std.proofs.lemmas.List.{map_more}
use Rattle.std.proofs.lemmas.List.Elements.{All-cons, All-head, All-nil, All-tail}
use Rattle.std.proofs.lemmas.Str.{IsAscii-drop, IsAscii-take, IsUtf8-from_ascii}
use Rattle.std.proofs.lemmas.Str.Ascii.{IsAscii-nil}

pub inserted : (x : Result Scan InsertError) (e : Endpoint) (old new : Rows) → InsertsRead x e old new (Ok tt) → new ≡ with_route x e old
inserted (Ok s) e old new h = h.1
inserted (Err x) e old new h = h.0

pub with_routes-push : (xs : List (List ℕ × Endpoint)) (x : List ℕ × Endpoint) (rows : Rows)
    → with_routes (xs ++ x ∷ []) rows ≡ with_route (parse_route x.0) x.1 (with_routes xs rows)
with_routes-push [] x rows = refl
with_routes-push (y ∷ ys) x rows = with_routes-push ys x (with_route (parse_route y.0) y.1 rows)

pub with_routes_more : (items : List (Bor (List ℕ) × Endpoint)) (i : ℕ) (d : Bor (List ℕ) × Endpoint) (start old new : Rows)
    → i < length items → old ≡ with_routes (map plain (take i items)) start
    → InsertsRead (parse_route (get_or items i d).0.now) (get_or items i d).1 old new (Ok tt) → new ≡ with_routes (map plain (take (i + 1) items)) start
with_routes_more items i d start old new fits e h = inserted (parse_route (get_or items i d).0.now) (get_or items i d).1 old new h
    ∙ ap (with_route (parse_route (get_or items i d).0.now) (get_or items i d).1) e
    ∙ sym (ap (λ xs. with_routes xs start) (map_more plain items i d fits) ∙ with_routes-push (map plain (take i items)) (plain (get_or items i d)) start)

-- ---- the parts that match the parameters

pub part_ascii : (bytes : List ℕ) (start end : ℕ) → IsAscii bytes → IsAscii (part_of bytes start end)
part_ascii bytes start end h = by_test (leb start end && leb end (length bytes)) where
  by_test : (b : Bool) → IsAscii (cond b (take (end - start) (drop start bytes)) [])
  by_test true = IsAscii-take (drop start bytes) (end - start) (IsAscii-drop bytes start h)
  by_test false = IsAscii-nil

pub walk_ascii : (pattern text path : List ℕ) (names : List (ℕ × ℕ)) (token at : ℕ) → IsAscii path
    → All (λ p. IsAscii p.1) (walk pattern text path names token at)
walk_ascii pattern text path [] token at h = All-nil _
walk_ascii pattern text path (name ∷ rest) token at h = All-cons (λ p. IsAscii p.1) _ _ (part_ascii path _ _ h) (walk_ascii pattern text path rest _ _ h)

abbrev parts : List (List ℕ × List ℕ) → List (List ℕ)
parts w = map (λ p. p.1) w

pub first_part : (w t : List (List ℕ × List ℕ)) (p : List ℕ × List ℕ) (x : List ℕ) → All (λ q. IsAscii q.1) w → w ≡ p ∷ t → Shows p.1 x
    → Some x ≡ slice_get (parts w) 0
first_part w t p x all e shows =
    let ascii = All-head (λ q. IsAscii q.1) p t (All-rest0 w t p all e) in
    ap Some (shows (IsUtf8-from_ascii p.1 ascii)) ∙ sym (ap (λ v. slice_get (parts v) 0) e) where
      All-rest0 : (w t : List (List ℕ × List ℕ)) (p : List ℕ × List ℕ) → All (λ q. IsAscii q.1) w → w ≡ p ∷ t → All (λ q. IsAscii q.1) (p ∷ t)
      All-rest0 w t p all e = subst (λ v. All (λ q. IsAscii q.1) v) e all

-- the first capture
pub first_given : (pattern text path : List ℕ) (names : List (ℕ × ℕ)) (w t : List (List ℕ × List ℕ)) (name x : List ℕ) → IsAscii path
    → w ≡ walk pattern text path names 0 0 → (p : List ℕ × List ℕ) × (w ≡ p ∷ t) × Shows p.0 name × Shows p.1 x
    → Some x ≡ slice_get (parts (walk pattern text path names 0 0)) 0
first_given pattern text path names w t name x ascii is (p, first, name_is, shows) =
    first_part _ t p x (walk_ascii pattern text path names 0 0 ascii) (sym is ∙ first) shows

pub second_part : (w t u : List (List ℕ × List ℕ)) (p q : List ℕ × List ℕ) (x : List ℕ) → All (λ r. IsAscii r.1) w → w ≡ p ∷ t → t ≡ q ∷ u → Shows q.1 x
    → Some x ≡ slice_get (parts w) 1
second_part w t u p q x all e f shows =
    let rest = All-tail (λ r. IsAscii r.1) p t (subst (λ v. All (λ r. IsAscii r.1) v) e all) in
    first_part t u q x rest f shows ∙ sym (ap (λ v. slice_get (parts v) 1) e)
