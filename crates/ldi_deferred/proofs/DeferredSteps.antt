-- An edit of a deferred session whose line was read, and then what comes of it.
use Rattle.ldi_deferred.proofs.Common.{AnswerCut, Appends, Basic, Command, Consumes, Consumes-trans, CutShort}
use Rattle.ldi_deferred.proofs.Common.{EditStepped, Err, HasLine, Keeps-refl, Link, List, Long, Ok, Option, Project}
use Rattle.ldi_deferred.proofs.Common.{Read, RunFault, Says, ServeStep, Served, Stepped, Write, [], ap, append_assoc}
use Rattle.ldi_deferred.proofs.Common.{arith, holding, inl, inr, length, length-append, line, payload, refl, spelling}
use Rattle.ldi_deferred.proofs.Common.{subst, sym, take, world, ℕ, ◌++◌, ◌-◌, ◌<◌, ◌∙◌, ◌∷◌, ◌≡◌}
use Rattle.std.proofs.Common.{replicate, Result}
use Rattle.std.proofs.lemmas.List.{length-replicate}
use Rattle.ldmodel.specs.Commands.{Edit, HasNo, edit_payload}
use Rattle.ldmodel_deferred.specs.Answers.{Holding, Reply}
use Rattle.ldi_stream.specs.Heads.{edit_of, announced}
use Rattle.ldi_stream.specs.declared.head.PayloadTarget.TheVariants as target
use Rattle.ldi_stream.specs.declared.head.EditHead.{EditHead}
use Rattle.ldi_stream.specs.declared.head.EditHead.TheVariants as edit
use Rattle.ldi_stream.specs.declared.serve.ServeStep.TheVariants.{Next, End}
use Rattle.ldi_deferred.specs.declared.head.DeferredHead.TheVariants as head
use Rattle.ldi_deferred.proofs.DeferredGrammar.{OneFirst, NotBegun, no_line, short_payload, bad_at_end}

-- a read failed within a line
pub cut_line : (old new : Option (List ℕ)) (out : Option (List ℕ)) (p : Holding) (part : List ℕ) → HasNo 10 part
    → Consumes old new part → CutShort (world old out p) (world new out p)
cut_line old new out p part h read =
    record { part = part; none = no_line part h; read = read; wrote = Keeps-refl out; same = refl }

nothing : (bytes : List ℕ) → length bytes ≡ 0 → [] ≡ bytes
nothing [] e = refl
nothing (b ∷ bs) e = absurd (omega (arith, e))

brings : (h : EditHead) (bytes : List ℕ) → length bytes ≡ announced h → edit_payload (edit_of h bytes) ≡ bytes
brings (edit.WithPayload (target.Add name at) count) bytes e = refl
brings (edit.WithPayload (target.Replace name) count) bytes e = refl
brings (edit.WithPayload target.Script count) bytes e = refl
brings (edit.Move name to) bytes e = nothing bytes e
brings (edit.Remove name) bytes e = nothing bytes e

module _ (one_first : OneFirst) (h : EditHead) (text : List ℕ) (says : Says text (head.Edit h)) where
  cut_short : (part : List ℕ) → length part < announced h → NotBegun ((text ++ 10 ∷ []) ++ part)
  cut_short part l =
      let missing : List ℕ = replicate (announced h - length part) 0 in
      let long : length (part ++ missing) ≡ announced h = rw (length-append part missing, length-replicate)
      (omega (arith, l)) in
      let some : 0 < length missing = rw length-replicate (omega (arith, l)) in
      rw append_assoc (short_payload one_first (Basic (Edit (edit_of h (part ++ missing)))) text part missing
      (says (part ++ missing) long) (brings h (part ++ missing) long) some)

  whole : (rest mid end : Option (List ℕ)) (bytes : List ℕ) → length bytes ≡ announced h
      → Consumes rest mid (text ++ 10 ∷ []) → Consumes mid end bytes
      → Consumes rest end (spelling (Basic (Edit (edit_of h bytes))))
  whole rest mid end bytes l first more =
      let all = Consumes-trans rest mid end _ _ first more in
      rw ((says bytes l).spelled, brings h bytes l) (rw append_assoc at all)

  some_line : (part : List ℕ) → 0 < length ((text ++ 10 ∷ []) ++ part)
  some_line part = rw length-append (rw length-append (omega arith))

  pub edit_stepped : (rest mid end : Option (List ℕ)) (out out' : Option (List ℕ)) (p p' : Project) (l l' : Link)
      (sent : List ℕ) (r : Result ServeStep RunFault) → l' ≡ l → Consumes rest mid (text ++ 10 ∷ [])
      → EditStepped (edit_of h) (announced h) mid end out out' p p' r
      → Stepped (world rest out (holding p l sent)) (world end out' (holding p' l' sent)) r
  edit_stepped rest mid end out out' p p' l l' sent (Ok Next) unlinked first s =
      record {
        command = Basic (Edit (edit_of h s.0));
        answer = s.1;
        is = (says s.0 s.2).is;
        read = whole rest mid end s.0 s.2 first s.3;
        wrote = s.4;
        reply = (s.5, ap (λ (k : Link). holding p' k sent) unlinked);
      }
  edit_stepped rest mid end out out' p p' l l' sent (Ok (End status)) unlinked first s =
      inr (record {
        bad = bad_at_end _ _ _ (some_line s.0) (cut_short s.0 s.1) (Consumes-trans _ _ _ _ _ first s.2) s.3;
        wrote = s.4;
        same = ap (λ (q : Project). holding q l' sent) s.5 ∙ ap (λ (k : Link). holding p k sent) unlinked;
        tells = s.6;
      })
  edit_stepped rest mid end out out' p p' l l' sent (Err Read) unlinked first s =
      record {
        part = (text ++ 10 ∷ []) ++ s.0;
        read = Consumes-trans _ _ _ _ _ first s.2;
        none = cut_short s.0 s.1;
        wrote = s.3;
        same = ap (λ (q : Project). holding q l' sent) s.4 ∙ ap (λ (k : Link). holding p k sent) unlinked;
      }
  edit_stepped rest mid end out out' p p' l l' sent (Err Write) unlinked first s =
      elim s [
        | inl a ↦ inl (record {
          command = Basic (Edit (edit_of h a.0));
          answer = a.1;
          n = a.2;
          is = (says a.0 a.3).is;
          read = whole rest mid end a.0 a.3 first a.4;
          wrote = a.5;
          reply = (a.6, ap (λ (k : Link). holding p' k sent) unlinked);
        })
        | inr b ↦ inr (record {
          bad = bad_at_end _ _ _ (some_line b.0) (cut_short b.0 b.2) (Consumes-trans _ _ _ _ _ first b.3) b.4;
          n = b.1;
          wrote = b.5;
          same = ap (λ (q : Project). holding q l' sent) b.6 ∙ ap (λ (k : Link). holding p k sent) unlinked;
        })
      ]
  edit_stepped rest mid end out out' p p' l l' sent (Err Long) unlinked first s = s

-- a command of one word, which was answered, or whose answer was cut off
module _ (rest mid : Option (List ℕ)) (out out' : Option (List ℕ)) (h h' : Holding) (text : List ℕ) (command : Command)
    (answer : List ℕ) (has : HasLine text command) (bare : payload command ≡ [])
    (read : Consumes rest mid (text ++ 10 ∷ [])) (reply : Reply h command answer h') where
  word_read : Consumes rest mid (spelling command)
  word_read =
      subst (λ (more : List ℕ). Consumes rest mid (line command ++ 10 ∷ more)) (sym bare)
      (subst (λ (first : List ℕ). Consumes rest mid (first ++ 10 ∷ [])) (sym has.spelled) read)

  pub word_served : Appends out out' answer → Served (world rest out h) (world mid out' h')
  word_served wrote = record {
    command = command;
    answer = answer;
    is = has.is;
    read = word_read;
    wrote = wrote;
    reply = reply;
  }

  pub word_cut : (n : ℕ) → Appends out out' (take n answer) → AnswerCut (world rest out h) (world mid out' h')
  word_cut n wrote = record {
    command = command;
    answer = answer;
    n = n;
    is = has.is;
    read = word_read;
    wrote = wrote;
    reply = reply;
  }
