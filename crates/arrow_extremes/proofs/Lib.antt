mod BestRows
