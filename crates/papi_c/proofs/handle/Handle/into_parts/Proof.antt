-- `into_parts` compares the pointer with null, and hands on what it owns.
use mathlib.Core.Path.{◌≡◌, refl, sym, subst}
use Rattle.papi_c.proofs.Words.{List, [], ◌∷◌, ◌++◌, lit<, Ura, Val, vstruct, vnull, vcons, vnil, of_list, has_ty, SProp, ent, emp, id⊢, guard_i}
use Rattle.papi_c.proofs.Words.{ftrue, fsep, Model, WpFn, Logic, sem, live, fact, fact_i, fact_use, Running, MachineTables, tables, Item, Sq, at_ret}
use Rattle.papi_c.proofs.Words.{prop, ‵, raw, given, learn, ◌⊛◌, ◌$◌, ◌∵◌, !, qed, by, move, keep, drop, use0, use1, split, rewrite, fpick, feq_l}
use Rattle.papi_c.proofs.Words.{fsplit, fjoin, whole, sub, agg, stop, fld, no_more, and_then, of_opd, bin, lit, first, branches, skips, exec, returns}
use Rattle.papi_c.proofs.Words.{returns_within, enter, alloc_all, pass_all, free_all, look_at, get, get_in, sets, env, yes, RattleType, Ptr}
use Rattle.papi_c.proofs.Words.{block_ptr, null_ptr, ptr_val, Testable, tests_null, nothing, Stays, stay_dropped, walk_of, Goes-dropped}
use Rattle.papi_c.proofs.Words.{dealloc_token-Testable, proved_at, leaves, Some-of, none_of, α, token, handle_tells, after, and_tt, D, B, τ, box_ty}
use Rattle.papi_c.proofs.Words.{word, box_typed, box_out, box_in, ghosts, ended, clauses}
use mir.Raw.{raw as bare}
use Rattle.std.specs.Prelude.{Option, None, Some, option_map}
use Rattle.core.specs.contracts.option.Option as OP
use Rattle.std_heap.specs.contracts.Global as Heap
use Rattle.papi_calls.specs.contracts.library.Library as Library
use Rattle.papi_c.proofs.AsBox.{E, FromHandle as From}
use Rattle.papi_c.specs.contracts.parts.Parts as Parts
use Rattle.papi_c.specs.contracts.handle.Handle as Handle
use Rattle.papi_c.specs.contracts.handle.Handle.into_parts.Key.{name as #self}
use Rattle.papi_c.proofs.handle.Handle.into_parts.Statement.{statement}
use Rattle.papi_c.proofs.handle.Handle.into_parts.Code as code

abbrev PR : RattleType
PR = Parts.the_row Library.the_row Heap.the_row ghosts

abbrev Row : RattleType
Row = Handle.the_row

abbrev stayed : Stays (ended).signature.params (ended).kept
stayed = (stay_dropped From yes, tt)

module _ {M : Type 1} {𝓤 : Ura M} (𝓛 : Logic 𝓤) (𝓜 : Model 𝓤 𝓛.H) (𝓡 : Running 𝓤 𝓛.H 𝓜) where
  abbrev 𝓣 : MachineTables 𝓤 𝓛.H 𝓜
  𝓣 = tables 𝓤 𝓛.H 𝓜 𝓡 𝓡.env

  module _ (z : (walk_of 𝓛 ended stayed (clauses 𝓛 𝓜.mem 𝓡.returns)).Ghost) where
    abbrev d : Row.Denot
    d = z.0.3.0

    abbrev vs : List Val
    vs = z.0.4.0

    abbrev Post : Val → SProp 𝓤
    Post = (walk_of 𝓛 ended stayed (clauses 𝓛 𝓜.mem 𝓡.returns)).post z

    abbrev Runs : List Val → SProp 𝓤
    Runs us = WpFn 𝓤 𝓛.H 𝓣.C 𝓣.Λ code.function (us ++ []) Post

    gives : (found : Option PR.Denot) (w : Val) → option_map (λ p. p.value) found ≡ d.library → Sq 𝓛 (‵ ((OP.the_row PR).own_val found (w ∷ [])) ∷ []) (prop (Post w))
    gives found w same =
        use0 𝓛 (raw (fact 𝓤 (option_map (λ p. p.value) found ≡ d.library))) (fact_i 𝓤 (option_map (λ p. p.value) found ≡ d.library) (emp 𝓤) same) $
        nothing ! $ nothing ! $ fjoin ! $ nothing ! $ move ! (0 ∷ 1 ∷ 3 ∷ 2 ∷ []) $ by ! (leaves 𝓛 ended stayed (clauses 𝓛 𝓜.mem 𝓡.returns) z w found (tt, tt) (tt, tt))

    at : (x : Option Library.the_row.Denot) → d.library ≡ x → ent 𝓤 (sem 𝓛 (Row.own_val d vs)) (Runs vs)
    at None e =
        qed 𝓛 (‵ (Row.own_val d vs) ∷ []) ∵ rewrite ! 0 (λ (y : Option Library.the_row.Denot). ‵ (Row.own_val (record d { library = y }) vs)) e refl $
        fsplit ! $ fpick ! (λ vss. fsplit ! $ feq_l ! (λ ev. fsplit ! $ feq_l ! (λ ep. fsplit ! $ handle_tells E.al ! d.alloc vss.1.0 (λ hv ea fa. move ! (1 ∷ []) $ drop ! $ move ! (1 ∷ []) $ feq_l ! (λ en. drop ! $
        let w : Val = vstruct (vcons vnull (vcons hv vnil)) in
        let ws : vs ≡ w ∷ [] = subst (λ (p : Ptr). vs ≡ vstruct (of_list (ptr_val p ∷ hv ∷ [])) ∷ []) en
        (subst (λ (us : List Val). vs ≡ vstruct (of_list (ptr_val d.at ∷ (us ++ []))) ∷ []) ea (subst (λ (ps : List Val). vs ≡ vstruct (of_list (ps ++ (vss.1.0 ++ []))) ∷ []) ep ev)) in
        by ! (subst (λ (us : List Val). ent 𝓤 (emp 𝓤) (Runs us)) (sym ws)
        (qed 𝓛 [] ∵ enter ! 𝓣.C 𝓣.Λ code.function (w ∷ []) _ $ alloc_all ! (λ ls. pass_all ! refl ((and_tt (has_ty (α E.al) hv) fa.0, (record { fits = lit< tt }, (fa.1, tt))), tt) $
        sets ! (of_opd ! (get_in ! (fld ! refl (stop !)) (sub ! 0 refl (whole !)))) refl (tt, record { fits = lit< tt }) $ sets ! (of_opd ! (get_in ! (fld ! refl (stop !)) (sub ! 1 refl (whole !)))) refl fa $
        sets ! (bin ! (get ! refl) (lit ! tt) (tests_null null_ptr (lit< tt))) refl (tt, tt) $
        first ! $ branches ! (get ! refl)
        (λ t. sets ! (agg ! (and_then ! (lit ! tt) (no_more !))) refl (tt, (record { fits = lit< tt }, tt)) $
        returns_within ! Post refl (look_at ! 0 refl) $ free_all ! refl $
        use0 𝓛 (‵ ((OP.the_row PR).own_val None (live 0 (of_list []) ∷ []))) (none_of 𝓛 PR) $ gives None (live 0 (of_list [])) (sym e))
        (λ t. absurd t)))))))))
    at (Some x) e =
        let v : D E = record { ptr = d.at; alloc = d.alloc; value = x } in
        qed 𝓛 (‵ (Row.own_val d vs) ∷ []) ∵ rewrite ! 0 (λ (y : Option Library.the_row.Denot). ‵ (Row.own_val (record d { library = y }) vs)) e refl $
        use1 𝓛 (‵ ((B E).own_val v vs)) (id⊢ 𝓤 _) $
        box_out E ! v vs (λ b o hv ep ws fa.
        let w : Val = word E hv b o in
        let tok = token E.al d.alloc (bare (τ E)) (block_ptr b o) in
        let made : PR.Denot = record { ptr = d.at; alloc = d.alloc; value = x } in
        move ! (1 ∷ []) $ use1 𝓛 (given (Testable (block_ptr b o)) (‵ tok)) (fact_use 𝓤 (Testable (block_ptr b o)) (dealloc_token-Testable 𝓛 d.alloc (bare (τ E)) (block_ptr b o)) (guard_i 𝓤 (Testable (block_ptr b o)) (sem 𝓛 tok))) $ learn ! (λ may. move ! (1 ∷ 0 ∷ []) $
        box_in E ! v b o x ep refl $ use1 𝓛 (‵ (PR.own_val made (w ∷ []))) (id⊢ 𝓤 _) $
        use1 𝓛 (‵ ((OP.the_row PR).own_val (Some made) (live 1 (of_list (w ∷ [])) ∷ []))) (Some-of 𝓛 PR made w) $
        let Γ : List (Item 𝓤) = ‵ ((OP.the_row PR).own_val (Some made) (live 1 (of_list (w ∷ [])) ∷ [])) ∷ [] in
        by ! (subst (λ (us : List Val). ent 𝓤 (types.Kit.⋆ 𝓛 Γ) (Runs us)) (sym ws)
        (qed 𝓛 Γ ∵ enter ! 𝓣.C 𝓣.Λ code.function (w ∷ []) _ $ alloc_all ! (λ ls. pass_all ! refl (box_typed E hv b o fa, tt) $
        sets ! (of_opd ! (get_in ! (fld ! refl (stop !)) (sub ! 0 refl (whole !)))) refl (tt, tt) $ sets ! (of_opd ! (get_in ! (fld ! refl (stop !)) (sub ! 1 refl (whole !)))) refl fa $
        sets ! (bin ! (get ! refl) (lit ! tt) (tests_null (block_ptr b o) may)) refl (tt, tt) $
        first ! $ branches ! (get ! refl) (λ t. absurd t)
        (λ t. skips ! $ exec ! 𝓣.C 𝓣.Λ (env (code.function).locals ls) (after 4 (code.function).body) (at_ret (env (code.function).locals ls) Post) $
        sets ! (of_opd ! (get ! refl)) refl (tt, tt) $
        sets ! (agg ! (and_then ! (get ! refl) (and_then ! (get ! refl) (no_more !)))) refl (box_typed E hv b o fa) $
        sets ! (agg ! (and_then ! (lit ! tt) (and_then ! (get ! refl) (no_more !)))) refl (and_tt (has_ty (box_ty E) w) (box_typed E hv b o fa).0, (record { fits = lit< tt }, ((box_typed E hv b o fa).1, tt))) $
        returns ! (look_at ! 0 refl) $ free_all ! refl $ gives (Some made) (live 1 (of_list (w ∷ []))) (sym e)))))))

pub into_parts_spec : {M : Type 1} → statement M
into_parts_spec 𝓤 𝓛 𝓜 𝓡 wired =
    proved_at 𝓛 ended stayed (clauses 𝓛 𝓜.mem 𝓡.returns) 𝓜 𝓡 (Goes-dropped 𝓛 0 From yes (λ κs x f. refl), tt) #self code.function (code.unfolded 𝓤 𝓛.H 𝓜 𝓡 wired) (λ z are.
    qed 𝓛 ((‵ ftrue ⊛ ‵ (fsep (Row.own_val z.0.3.0 z.0.4.0) ftrue)) ∷ raw (emp 𝓤) ∷ []) ∵ split ! $ drop ! $ fsplit ! $ keep ! (0 ∷ []) $ by ! (at 𝓛 𝓜 𝓡 z z.0.3.0.library refl))
