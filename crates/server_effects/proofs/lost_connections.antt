mod Lost
